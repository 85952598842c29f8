-- A table of rows: so many words a row, the width. The request table, the touch script and the operator list are such tables.
use Rattle.std.specs.Prelude.{ℕ, ◌+◌, ◌*◌, ◌/◌, ◌%◌, Bool, List, eqb, ℤ, length}
use Rattle.words.specs.Words.{word_at}

-- How many whole rows the table has.
abbrev pub rows_of : ℕ → List ℤ → ℕ
rows_of width t = length t / width

-- Whether it has nothing but whole rows.
abbrev pub has_whole_rows : ℕ → List ℤ → Bool
has_whole_rows width t = eqb (length t % width) 0

-- The word in a column of a row.
abbrev pub word_of : ℕ → List ℤ → ℕ → ℕ → ℤ
word_of width t r column = word_at t (r * width + column)
