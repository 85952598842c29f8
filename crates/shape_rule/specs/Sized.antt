-- The request table of a shape table (document 02, order 1): each row's size, then its first, last and offset as they are. "Shapes are judged before the
-- plan, and the first bad one is printed with a = its row." `room` is the length of the lent request table.
use Rattle.std.specs.Prelude.{ℕ, ◌+◌, ◌*◌, ◌/◌, ◌%◌, true, false, not, List, [], ◌∷◌, ◌++◌, ltb, eqb, ℤ, pos, length}
use Rattle.answer.specs.Answer as A
use Rattle.answer.specs.declared.Answer.{Answer}
use Rattle.bounded.specs.Causes.{Cause, ◌⇒◌, first_cause}
use Rattle.bounded.specs.First.{first_in, holds_below}
use Rattle.bounded.specs.Listed.{list_from}
use Rattle.bounded.specs.Replaced.{replaced}
use Rattle.request_table.specs.Limits.{greatest_rows}
use Rattle.words.specs.Rows.{has_whole_rows}
use Rattle.shape_rule.specs.ShapeTable.{shape_count, shape_word, tensor_size, bad_shape}

-- The word in a column of a row of the request table: the size in column 0; first, last and offset in columns 1, 2 and 3, which are the shape's 10, 11, 12.
unfoldable pub request_word : List ℤ → ℕ → ℕ → ℤ
request_word t r column = elim (eqb column 0) [ true ↦ pos (tensor_size t r).need | false ↦ shape_word t r (9 + column) ]

-- Its entries are four words a row.
abbrev pub request_entry : List ℤ → ℕ → ℤ
request_entry t i = request_word t (i / 4) (i % 4)

-- The request table of a shape table.
unfoldable pub sized_table : List ℤ → List ℤ
sized_table t = list_from (request_entry t) 0 (shape_count t * 4)

-- 1 to 3: the tables' lengths. Four entries a row are asked for.
abbrev pub length_causes : List ℤ → ℕ → List (Cause Answer)
length_causes t room =
    (not (has_whole_rows 13 t) ⇒ A.refused A.not_whole_rows)
    ∷ (ltb greatest_rows (shape_count t) ⇒ A.refused A.too_many)
    ∷ (ltb room (shape_count t * 4) ⇒ A.refused A.table_too_short)
    ∷ []

-- The first bad shape's own number, "with a = its row".
abbrev pub shape_causes : List ℤ → List (Cause Answer)
shape_causes t =
    (holds_below (bad_shape t) (shape_count t) ⇒ A.refused_at (tensor_size t (first_in (bad_shape t) 0 (shape_count t))).number (first_in (bad_shape t) 0 (shape_count t))) ∷ []

-- The answer of the lengths alone.
unfoldable pub lengths_of : List ℤ → ℕ → Answer
lengths_of t room = first_cause (length_causes t room) (A.done_with 0)

-- The answer of the shapes alone.
unfoldable pub shapes_of : List ℤ → Answer
shapes_of t = first_cause (shape_causes t) (A.done_with 0)

-- The answer: a refusal, or done with all zeros.
unfoldable pub sized_of : List ℤ → ℕ → Answer
sized_of t room = first_cause (length_causes t room ++ shape_causes t) (A.done_with 0)

-- The lent table in the end: the rows in front and the rest as it was; a refusal leaves it as it was.
unfoldable pub final_requests : List ℤ → List ℤ → List ℤ
final_requests t requests = elim (eqb (sized_of t (length requests)).number A.done) [ true ↦ replaced (request_entry t) (shape_count t * 4) requests | false ↦ requests ]
