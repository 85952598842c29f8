-- Laws of the definitions of specs/TextLengths.antt.
use Rattle.std.specs.Prelude.{ℕ, ◌+◌, ◌*◌, ◌^◌, ◌≤◌, ◌<◌, Bool, true, false, List, eqb, ℤ, pos, negsuc, length}
use Rattle.std.proofs.Common.{arith, length-append}
use Rattle.std.specs.Int.Signed.{mag}
use Rattle.answer.specs.declared.Answer.{Answer}
use Rattle.answer.specs.Answer.{done}
use Rattle.request_table.specs.Limits.{greatest_rows}
use Rattle.words.specs.Words.{word_at, natural}
use Rattle.text_pieces.specs.Pieces.{spaced}
use Rattle.text_pieces.proofs.Pieces.{decimal_short, spaced_short, spaced_bounded, lines_short}
use Rattle.text_rule.specs.Text.{head_line, row_line, offset_in, row_lines, plan_text, refused_text, answer_text, bad_sheet_text, greatest_text}
use Rattle.text_rule.specs.TextLengths.{Held}

-- The head's line has at most 26 codes.
pub head_short : (need : ℕ) → length (head_line need) ≤ 26
unfolding head_line
head_short need = simp length-append (omega (arith, spaced_bounded need))

-- A row's line has at most 22.
pub row_short : (row offset : ℕ) → row < 10 ^ 10 → offset < 2 ^ 32 → length (row_line row offset) ≤ 22
unfolding row_line spaced
row_short row offset h g = simp length-append (omega (arith, decimal_short row h, decimal_short offset (omega arith)))

-- So many rows have at most 22 each.
pub rows_short : (offset_of : ℕ → ℕ) (n : ℕ) → n ≤ 10 ^ 10 → ((k : ℕ) → k < n → offset_of k < 2 ^ 32) → length (row_lines offset_of n) ≤ 22 * n
rows_short offset_of n l h = lines_short (λ (row : ℕ). row_line row (offset_of row)) 22 n (λ k m. row_short k (offset_of k) (omega arith) (h k m))

-- A plan has its head's line and its rows'.
pub plan_short : (need : ℕ) (offset_of : ℕ → ℕ) (n : ℕ) → n ≤ 10 ^ 10 → ((k : ℕ) → k < n → offset_of k < 2 ^ 32)
    → length (plan_text need offset_of n) ≤ 26 + 22 * n
unfolding plan_text
plan_short need offset_of n l h = simp length-append (omega (arith, head_short need, rows_short offset_of n l h))

-- A refusal has at most 62 codes.
pub refused_short : (x : Answer) → Held x → length (refused_text x) ≤ 62
unfolding refused_text
refused_short x h =
    simp length-append
    (omega (
      arith,
      spaced_short x.number (omega (arith, h.number_held)),
      spaced_short x.a (omega (arith, h.a_held)),
      spaced_short x.b (omega (arith, h.b_held)),
      spaced_bounded x.need,
    ))

-- No text of an answer is longer than the greatest text.
pub answer_short : (x : Answer) (offset_of : ℕ → ℕ) (n : ℕ) → Held x → n ≤ greatest_rows → ((k : ℕ) → k < n → offset_of k < 2 ^ 32)
    → length (answer_text x offset_of n) ≤ greatest_text
unfolding answer_text
answer_short x offset_of n h l small = go (eqb x.number done)
  where
    go : (b : Bool) → length {A = ℕ} (elim b [ true ↦ plan_text x.need offset_of n | false ↦ refused_text x ]) ≤ greatest_text
    go true = omega (arith, plan_short x.need offset_of n (omega arith) small)
    go false = omega (arith, refused_short x h)

-- Nor is the line `bad sheet`.
pub bad_sheet_short : length bad_sheet_text ≤ greatest_text
bad_sheet_short = omega arith

natural_small : (z : ℤ) → mag z < 2 ^ 31 → natural z < 2 ^ 32
unfolding natural
natural_small (pos n) h = omega arith
natural_small (negsuc n) h = omega arith

-- An offset that a signed 32-bit word holds is below 2 ^ 32, as these laws ask.
pub offset_small : (offsets : List ℤ) (row : ℕ) → mag (word_at offsets row) < 2 ^ 31 → offset_in offsets row < 2 ^ 32
unfolding offset_in
offset_small offsets row h = natural_small (word_at offsets row) h
