-- The text of an answer (document 01, "The request sheet"): the program "prints the plan, or `refused N a b need`, or `bad sheet`"; the plan is a line
-- `head NEED`, then a line `ROW OFFSET` for each row by rising row. "Every line ends in one line feed." A text is the list of its ASCII codes.
use Rattle.std.specs.Prelude.{ℕ, ◌+◌, ◌*◌, true, false, List, [], ◌∷◌, ◌++◌, eqb, ℤ}
use Rattle.answer.specs.declared.Answer.{Answer}
use Rattle.answer.specs.Answer.{done}
use Rattle.request_table.specs.Limits.{greatest_rows}
use Rattle.words.specs.Words.{word_at, natural}
use Rattle.decimal_text.specs.Decimal.{decimal}
use Rattle.text_pieces.specs.Pieces.{line_feed, spaced, lines_below}

-- `head`
abbrev pub head_word : List ℕ
head_word = 104 ∷ 101 ∷ 97 ∷ 100 ∷ []

-- `refused`
abbrev pub refused_word : List ℕ
refused_word = 114 ∷ 101 ∷ 102 ∷ 117 ∷ 115 ∷ 101 ∷ 100 ∷ []

-- The line `head NEED`.
unfoldable pub head_line : ℕ → List ℕ
head_line need = head_word ++ spaced need ++ line_feed

-- The line `ROW OFFSET`.
unfoldable pub row_line : ℕ → ℕ → List ℕ
row_line row offset = decimal row ++ spaced offset ++ line_feed

-- The offset of a row in a table of offsets.
unfoldable pub offset_in : List ℤ → ℕ → ℕ
offset_in offsets row = natural (word_at offsets row)

-- The lines of the first n rows, by rising row.
abbrev pub row_lines : (ℕ → ℕ) → ℕ → List ℕ
row_lines offset_of n = lines_below (λ (row : ℕ). row_line row (offset_of row)) n

-- The plan of n rows.
unfoldable pub plan_text : ℕ → (ℕ → ℕ) → ℕ → List ℕ
plan_text need offset_of n = head_line need ++ row_lines offset_of n

-- The line `refused N a b need`.
unfoldable pub refused_text : Answer → List ℕ
refused_text x = refused_word ++ spaced x.number ++ spaced x.a ++ spaced x.b ++ spaced x.need ++ line_feed

-- An answer's text: the plan where it is done, else the refusal.
unfoldable pub answer_text : Answer → (ℕ → ℕ) → ℕ → List ℕ
answer_text x offset_of n = elim (eqb x.number done) [ true ↦ plan_text x.need offset_of n | false ↦ refused_text x ]

-- The line `bad sheet`.
abbrev pub bad_sheet_text : List ℕ
bad_sheet_text = 98 ∷ 97 ∷ 100 ∷ 32 ∷ 115 ∷ 104 ∷ 101 ∷ 101 ∷ 116 ∷ 10 ∷ []

-- No text is longer than this: a refusal has three numbers of 32 bits and one of 64, a row's line two of 32, and a number of 32 bits 10 digits at most.
abbrev pub greatest_text : ℕ
greatest_text = 62 + 22 * greatest_rows
