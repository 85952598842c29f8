-- Texts, computed: the document's two examples, and the ends of the range of a number.
use Rattle.std.specs.Prelude.{[], ◌∷◌, ◌≡◌, refl, pos}
use Rattle.answer.specs.Answer.{done_with, refused_need, need_exceeds_space}
use Rattle.bounded.specs.First.{first_in, first_from}
use Rattle.words.specs.Words.{natural}
use Rattle.decimal_text.specs.Decimal.{decimal, places}
use Rattle.text_pieces.specs.Pieces.{spaced, lines_below}
use Rattle.text_rule.specs.Text.{head_line, row_line, offset_in, plan_text, refused_text, answer_text}

-- "With the three rows of Sheet A below and space 1,024 the output is exactly": `head 176`, `0 0`, `1 112`, `2 0`.
pub sheet_a_done : answer_text (done_with 176) (offset_in (pos 0 ∷ pos 112 ∷ pos 0 ∷ [])) 3
    ≡ 104 ∷ 101 ∷ 97 ∷ 100 ∷ 32 ∷ 49 ∷ 55 ∷ 54 ∷ 10 ∷ 48 ∷ 32 ∷ 48 ∷ 10 ∷ 49 ∷ 32 ∷ 49 ∷ 49 ∷ 50 ∷ 10 ∷ 50 ∷ 32 ∷ 48 ∷ 10 ∷ []
unfolding answer_text plan_text head_line lines_below row_line spaced decimal places first_in first_from offset_in natural
sheet_a_done = refl

-- "With space 175 it is `refused 7 0 0 176`."
pub sheet_a_refused : answer_text (refused_need need_exceeds_space 176) (offset_in []) 0
    ≡ 114 ∷ 101 ∷ 102 ∷ 117 ∷ 115 ∷ 101 ∷ 100 ∷ 32 ∷ 55 ∷ 32 ∷ 48 ∷ 32 ∷ 48 ∷ 32 ∷ 49 ∷ 55 ∷ 54 ∷ 10 ∷ []
unfolding answer_text refused_text spaced decimal places first_in first_from
sheet_a_refused = refl

-- A plan of no rows is its head's line alone, `head 0`.
pub no_rows : answer_text (done_with 0) (offset_in []) 0 ≡ 104 ∷ 101 ∷ 97 ∷ 100 ∷ 32 ∷ 48 ∷ 10 ∷ []
unfolding answer_text plan_text head_line lines_below spaced decimal places first_in first_from
no_rows = refl

-- 0 is one digit.
pub zero_is_one_digit : decimal 0 ≡ 48 ∷ []
unfolding decimal places first_in first_from
zero_is_one_digit = refl

-- The greatest number of 64 bits, 18446744073709551615, has all twenty.
pub greatest_number : decimal 18446744073709551615
    ≡ 49 ∷ 56 ∷ 52 ∷ 52 ∷ 54 ∷ 55 ∷ 52 ∷ 52 ∷ 48 ∷ 55 ∷ 51 ∷ 55 ∷ 48 ∷ 57 ∷ 53 ∷ 53 ∷ 49 ∷ 54 ∷ 49 ∷ 53 ∷ []
unfolding decimal places first_in first_from
greatest_number = refl
