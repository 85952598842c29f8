-- Document 01's own reply, computed: "With the three rows of Sheet A below and space 1,024 the output is exactly" its four lines; "With space 175 it is
-- `refused 7 0 0 176`." Of version 2 it is bad. And the replies to two sheets that are of version 2.
use Rattle.std.specs.Prelude.{ℕ, ◌≡◌, refl}
use mathlib.Core.List.{List, [], ◌∷◌, ◌++◌, prod}
use Rattle.alignment.specs.Rounding.{rounded_up}
use Rattle.bounded.specs.Count.{one, count}
use Rattle.bounded.specs.First.{first_from, first_in, holds_below}
use Rattle.bounded.specs.Greatest.{greatest}
use Rattle.bounded.specs.InOrder.{rank, at_rank, in_order}
use Rattle.bounded.specs.Listed.{list_from}
use Rattle.bounded.specs.Pair.{partner, has_partner, pair_below, pair_first, pair_second}
use Rattle.greedy_rule.specs.Greedy.{larger_first, fixed_rows, greedy_order, greedy_plan}
use Rattle.greedy_rule.specs.Plan.{fixed_collide, greedy_need, plan_of}
use Rattle.placement.specs.Placing.{put, free, top, lowest, offset_for, placing, place}
use Rattle.decimal_text.specs.Decimal.{places, decimal}
use Rattle.text_pieces.specs.Pieces.{spaced, lines_below}
use Rattle.text_rule.specs.Text.{bad_sheet_text, head_line, row_line, plan_text, refused_text, answer_text}
use Rattle.request_table.specs.Buffers.{live_together, share_byte, collides, end_or_zero, need}
use Rattle.request_table.specs.Table.{request, good}
use Rattle.shape_rule.specs.ShapeTable.{tensor_size, bad_shape}
use Rattle.shape_rule.specs.Sized.{request_word, sized_table, shapes_of}
use Rattle.sheet_rule.specs.Sheet.{marked, row_words, well_formed}
use Rattle.sheet_rule.specs.SheetExamples.{head_of, rows_of_a, sheet_a, shaped_sheet}
use Rattle.tensor_sizes.specs.ByteSize.{one_of, element_bytes, elements, has_negative, byte_size_of}
use Rattle.word_bytes.specs.Bytes.{little_endian, signed_word, word_of}
use Rattle.word_lists.specs.WordLists.{words_from}
use Rattle.words.specs.Words.{natural, is_minus_one}
use Rattle.reply_rule.specs.Reply.{table_text, shapes_text, reply_text}

-- `head 176`, `0 0`, `1 112`, `2 0`.
abbrev four_lines : List ℕ
four_lines =
    (104 ∷ 101 ∷ 97 ∷ 100 ∷ 32 ∷ 49 ∷ 55 ∷ 54 ∷ 10 ∷ [])
    ++ (48 ∷ 32 ∷ 48 ∷ 10 ∷ [])
    ++ (49 ∷ 32 ∷ 49 ∷ 49 ∷ 50 ∷ 10 ∷ [])
    ++ (50 ∷ 32 ∷ 48 ∷ 10 ∷ [])

-- `refused 7 0 0 176`.
abbrev refused_line : List ℕ
refused_line = 114 ∷ 101 ∷ 102 ∷ 117 ∷ 115 ∷ 101 ∷ 100 ∷ 32 ∷ 55 ∷ 32 ∷ 48 ∷ 32 ∷ 48 ∷ 32 ∷ 49 ∷ 55 ∷ 54 ∷ 10 ∷ []

-- A space of 175.
abbrev space175 : List ℕ
space175 = 175 ∷ 0 ∷ 0 ∷ 0 ∷ []

-- The three sheets and their replies: Sheet A, the same in a space of 175, the same of version 2.
pub replies : (reply_text (sheet_a 1) ∷ reply_text (head_of 1 ++ space175 ++ rows_of_a) ∷ reply_text (sheet_a 2) ∷ []) ≡ (four_lines ∷ refused_line ∷ bad_sheet_text ∷ [])
unfolding one count first_from first_in holds_below greatest list_from rank at_rank in_order partner has_partner pair_below pair_first pair_second natural is_minus_one rounded_up live_together share_byte collides end_or_zero need request good put free top lowest offset_for placing place larger_first fixed_rows greedy_order greedy_plan fixed_collide greedy_need plan_of places decimal spaced head_line row_line lines_below plan_text refused_text answer_text table_text reply_text marked row_words well_formed little_endian signed_word word_of words_from
replies = refl

-- `head 32`, `0 0`.
abbrev two_lines : List ℕ
two_lines = (104 ∷ 101 ∷ 97 ∷ 100 ∷ 32 ∷ 51 ∷ 50 ∷ 10 ∷ []) ++ (48 ∷ 32 ∷ 48 ∷ 10 ∷ [])

-- `refused 24 0 0 0`.
abbrev refused_code : List ℕ
refused_code = 114 ∷ 101 ∷ 102 ∷ 117 ∷ 115 ∷ 101 ∷ 100 ∷ 32 ∷ 50 ∷ 52 ∷ 32 ∷ 48 ∷ 32 ∷ 48 ∷ 32 ∷ 48 ∷ 10 ∷ []

-- Sheets of version 2: one int8 of 7 by 3, and the same of a string.
pub shaped_replies : (reply_text (shaped_sheet 9) ∷ reply_text (shaped_sheet 5) ∷ []) ≡ (two_lines ∷ refused_code ∷ [])
unfolding one_of element_bytes elements prod has_negative byte_size_of tensor_size bad_shape request_word sized_table shapes_of one count first_from first_in holds_below greatest list_from rank at_rank in_order partner has_partner pair_below pair_first pair_second natural is_minus_one rounded_up live_together share_byte collides end_or_zero need request good put free top lowest offset_for placing place larger_first fixed_rows greedy_order greedy_plan fixed_collide greedy_need plan_of places decimal spaced head_line row_line lines_below plan_text refused_text answer_text table_text shapes_text reply_text marked row_words well_formed little_endian signed_word word_of words_from
shaped_replies = refl
