-- The checks 1, 2 and 3 of document 01's "Answer numbers": "1 a table isn't whole rows", "2 too many rows, operators or tensors; no operator", "3 a lent
-- answer or proposal table is too short". Every entry point over tables begins with these three; its own list says what each test is.
use Rattle.std.specs.Prelude.{Bool, List, [], ◌∷◌}
use Rattle.answer.specs.Answer as A
use Rattle.answer.specs.declared.Answer.{Answer}
use Rattle.bounded.specs.Causes.{Cause, ◌⇒◌, first_cause}

-- 1, 2 and 3, by whether each holds.
abbrev pub length_causes : Bool → Bool → Bool → List (Cause Answer)
length_causes ragged many short = (ragged ⇒ A.refused A.not_whole_rows) ∷ (many ⇒ A.refused A.too_many) ∷ (short ⇒ A.refused A.table_too_short) ∷ []

-- Their answer alone: a refusal, or done with no need.
unfoldable pub lengths_of : Bool → Bool → Bool → Answer
lengths_of ragged many short = first_cause (length_causes ragged many short) (A.done_with 0)
