-- The shape table (document 02, order 1, the rows of the second form of the request sheet): thirteen signed words a row, "code, number of dimensions
-- (negative is number 2), eight dimensions (those past the number are ignored), first, last, offset". All is a total function of the table and the row's
-- number. A negative word reads as a number above every limit (`words`), so that a negative number of dimensions is more than eight.
use Rattle.std.specs.Prelude.{ℕ, ◌+◌, ◌*◌, Bool, true, false, not, List, ltb, eqb, ℤ, take, drop}
use Rattle.answer.specs.Answer as A
use Rattle.answer.specs.declared.Answer.{Answer}
use Rattle.tensor_sizes.specs.ByteSize.{greatest_dimensions, byte_size_of}
use Rattle.words.specs.Rows.{rows_of, word_of}
use Rattle.words.specs.Words.{natural}

-- How many whole rows the table has.
abbrev pub shape_count : List ℤ → ℕ
shape_count t = rows_of 13 t

-- The word in a column of a row.
abbrev pub shape_word : List ℤ → ℕ → ℕ → ℤ
shape_word t r column = word_of 13 t r column

-- "code,
abbrev pub type_code : List ℤ → ℕ → ℤ
type_code t r = shape_word t r 0

-- number of dimensions,
abbrev pub dimension_count : List ℤ → ℕ → ℕ
dimension_count t r = natural (shape_word t r 1)

-- eight dimensions (those past the number are ignored)".
abbrev pub dimensions : List ℤ → ℕ → List ℤ
dimensions t r = take (dimension_count t r) (drop (r * 13 + 2) t)

-- The byte size of a row's tensor, or its refusal: "number of dimensions (negative is number 2)", above eight too; else as shape and type have it.
unfoldable pub tensor_size : List ℤ → ℕ → Answer
tensor_size t r = elim (ltb greatest_dimensions (dimension_count t r)) [ true ↦ A.refused A.too_many | false ↦ byte_size_of (dimensions t r) (type_code t r) ]

-- A bad shape is one that is refused.
unfoldable pub bad_shape : List ℤ → ℕ → Bool
bad_shape t r = not (eqb (tensor_size t r).number A.done)
