-- The request sheet (document 01): "Mark ARN (41 52 4E), version 1 as 16 bits, row count as 16 bits, space as 32 bits, then the rows; all little-endian."
-- Document 02, order 1, adds "A second form of the request sheet, version 2", with shapes for rows: what follows is over both. A sheet is the list of its
-- bytes. All is total: what stands past its end reads as 0.
use Rattle.std.specs.Prelude.{ℕ, ◌+◌, ◌*◌, Bool, true, false, not, ◌&&◌, List, [], ◌∷◌, ◌++◌, Option, Some, None, leb, eqb, ℤ, length, get_or, drop}
use Rattle.bounded.specs.Causes.{Cause, ◌⇒◌, first_cause}
use Rattle.request_table.specs.Limits.{greatest_rows}
use Rattle.word_bytes.specs.Bytes.{little_endian}
use Rattle.word_lists.specs.WordLists.{words_from}
use Rattle.sheet_rule.specs.declared.Sheet.{Sheet}
use Rattle.sheet_rule.specs.declared.Sheet.TheVariants.{Requests, Shapes}

-- "Mark ARN (41 52 4E)",
unfoldable pub marked : List ℕ → Bool
marked sheet = (eqb (get_or sheet 0 0) 65 && eqb (get_or sheet 1 0) 82) && eqb (get_or sheet 2 0) 78

-- "version .. as 16 bits,
abbrev pub version : List ℕ → ℕ
version sheet = little_endian sheet 3 2

-- row count as 16 bits,
abbrev pub row_count : List ℕ → ℕ
row_count sheet = little_endian sheet 5 2

-- space as 32 bits,
abbrev pub sheet_space : List ℕ → ℕ
sheet_space sheet = little_endian sheet 7 4

-- then the rows": four words each in version 1, thirteen in version 2. No other version has any.
unfoldable pub row_words : ℕ → ℕ
row_words number = first_cause ((eqb number 1 ⇒ 4) ∷ (eqb number 2 ⇒ 13) ∷ []) 0

-- How many words the rows have,
abbrev pub word_count : List ℕ → ℕ
word_count sheet = row_count sheet * row_words (version sheet)

-- and the words.
abbrev pub sheet_words : List ℕ → List ℤ
sheet_words sheet = words_from sheet 11 (word_count sheet)

-- "length (11 + 16 per row)"; of version 2, "11 + 52 per row".
abbrev pub sheet_bytes : ℕ → ℕ → ℕ
sheet_bytes number rows = 11 + rows * row_words number * 4

-- "`bad sheet` if mark, version or length (11 + 16 per row) is wrong or the input passes 4,107 bytes"; of version 2, "at most 13,323": none of these holds.
-- Document 02, order 5: "A sheet is now at most 16,395 bytes in version 1 and 53,259 in version 2."
unfoldable pub well_formed : List ℕ → Bool
well_formed sheet =
    (marked sheet && not (eqb (row_words (version sheet)) 0))
    && (eqb (length sheet) (sheet_bytes (version sheet) (row_count sheet)) && leb (length sheet) (sheet_bytes (version sheet) greatest_rows))

-- A bad sheet, and one of requests.
abbrev pub sheet_causes : List ℕ → List (Cause (Option Sheet))
sheet_causes sheet = (not (well_formed sheet) ⇒ None) ∷ (eqb (version sheet) 1 ⇒ Some (Requests (word_count sheet) (sheet_space sheet))) ∷ []

-- What is read: nothing from a bad sheet; else so many words of requests, or of shapes, and a space.
unfoldable pub sheet_of : List ℕ → Option Sheet
sheet_of sheet = first_cause (sheet_causes sheet) (Some (Shapes (word_count sheet) (sheet_space sheet)))

-- The lent table in the end: the rows in front and the rest as it was; a bad sheet leaves it as it was.
unfoldable pub words_read : List ℕ → List ℤ → List ℤ
words_read sheet table = elim (well_formed sheet) [ true ↦ sheet_words sheet ++ drop (word_count sheet) table | false ↦ table ]
