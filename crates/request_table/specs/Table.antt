-- The request table: the raw list of its signed words, four a row: size, first moment, last moment, fixed offset (−1: placed by us).
-- All is a total function of the table and the row's number. A negative word reads as a number above every limit (`words`), so a test of an upper
-- limit also refuses it; `GoodRows` says the rule again in signed numbers, as document 01 has it, and proves that it is the same.
use Rattle.std.specs.Prelude.{ℕ, ◌%◌, Bool, true, false, not, ◌&&◌, List, Option, Some, None, leb, eqb, ℤ}
use Rattle.units.specs.declared.Offset.{Offset}
use Rattle.words.specs.Rows.{rows_of, has_whole_rows, word_of}
use Rattle.words.specs.Words.{natural, is_minus_one}
use Rattle.request_table.specs.Limits.{greatest_space, last_moment}
use Rattle.request_table.specs.declared.Request.{Request}

-- How many whole rows the table has.
abbrev pub rows : List ℤ → ℕ
rows t = rows_of 4 t

-- Whether it has nothing but whole rows.
abbrev pub whole_rows : List ℤ → Bool
whole_rows t = has_whole_rows 4 t

-- The word in a column of a row.
abbrev pub word : List ℤ → ℕ → ℕ → ℤ
word t r column = word_of 4 t r column

-- The offset that a row's last word fixes: "−1: placed by us", any other is the offset.
abbrev pub fixed_at : ℤ → Option Offset
fixed_at z = elim (is_minus_one z) [ true ↦ None | false ↦ Some (record { 0 = natural z }) ]

-- A row, as the code has it.
unfoldable pub request : List ℤ → ℕ → Request
request t r =
    record {
      size = natural (word t r 0);
      first = record { 0 = natural (word t r 1) };
      last = record { 0 = natural (word t r 2) };
      offset = fixed_at (word t r 3);
    }

-- Whether the row is fixed.
abbrev pub fixed : List ℤ → ℕ → Bool
fixed t r = not (is_minus_one (word t r 3))

-- The offset of a fixed row.
abbrev pub fixed_offset : List ℤ → ℕ → ℕ
fixed_offset t r = natural (word t r 3)

-- An offset is a multiple of the grid.
abbrev pub on_grid : ℕ → ℕ → Bool
on_grid g o = eqb (o % g) 0

-- Document 01: "size is 0 to 16,777,216".
abbrev pub good_size : Request → Bool
good_size x = leb x.size greatest_space

-- "0 ≤ first ≤ last ≤ 65,535".
abbrev pub good_lifetime : Request → Bool
good_lifetime x = leb x.first.0 x.last.0 && leb x.last.0 last_moment

-- What a row is fixed at passes if it is nothing, or a multiple of the grid within the limit.
abbrev pub passes : ℕ → Option Offset → Bool
passes g None = true
passes g (Some o) = on_grid g o.0 && leb o.0 greatest_space

-- "the offset is −1 (placed by us) or a multiple of 16 from 0 to 16,777,216".
abbrev pub good_offset : ℕ → Request → Bool
good_offset g x = passes g x.offset

-- A good row is all three.
unfoldable pub good : ℕ → Request → Bool
good g x = good_size x && (good_lifetime x && good_offset g x)

-- A bad row is any other.
abbrev pub bad_row : ℕ → List ℤ → ℕ → Bool
bad_row g t r = not (good g (request t r))
