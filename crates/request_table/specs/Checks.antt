-- The checks 1 to 5 of document 01, "The desk's order of checks": every planner and the inspector begin with them.
-- `room` is the length of the lent answer table or proposal.
use Rattle.std.specs.Prelude.{ℕ, not, List, [], ◌∷◌, ◌++◌, ltb, ℤ}
use Rattle.answer.specs.declared.Answer.{Answer}
use Rattle.answer.specs.Answer as A
use Rattle.bounded.specs.Causes.{Cause, ◌⇒◌, first_cause}
use Rattle.bounded.specs.First.{first_in, holds_below}
use Rattle.request_table.specs.Limits.{greatest_rows, greatest_space}
use Rattle.request_table.specs.Table.{rows, whole_rows, bad_row}

-- 1 to 3: the tables' lengths.
abbrev pub shape_causes : List ℤ → ℕ → List (Cause Answer)
shape_causes t room =
    (not (whole_rows t) ⇒ A.refused A.not_whole_rows)
    ∷ (ltb greatest_rows (rows t) ⇒ A.refused A.too_many)
    ∷ (ltb room (rows t) ⇒ A.refused A.table_too_short)
    ∷ []

-- 4 and 5: the space, and the lowest bad row.
abbrev pub content_causes : ℕ → List ℤ → ℕ → List (Cause Answer)
content_causes g t space =
    (ltb greatest_space space ⇒ A.refused A.space_too_large)
    ∷ (holds_below (bad_row g t) (rows t) ⇒ A.refused_at A.bad_row (first_in (bad_row g t) 0 (rows t)))
    ∷ []

-- 1 to 5.
abbrev pub table_causes : ℕ → List ℤ → ℕ → ℕ → List (Cause Answer)
table_causes g t space room = shape_causes t room ++ content_causes g t space

-- The answer of the checks 1 to 3 alone: a refusal, or done with no need.
unfoldable pub shape_of : List ℤ → ℕ → Answer
shape_of t room = first_cause (shape_causes t room) (A.done_with 0)

-- The answer of the checks 4 and 5 alone.
unfoldable pub content_of : ℕ → List ℤ → ℕ → Answer
content_of g t space = first_cause (content_causes g t space) (A.done_with 0)

-- The answer of the checks 1 to 5 alone.
unfoldable pub check_of : ℕ → List ℤ → ℕ → ℕ → Answer
check_of g t space room = first_cause (table_causes g t space room) (A.done_with 0)
