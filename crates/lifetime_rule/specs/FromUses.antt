-- The answer for an operator list, and the lifetimes that it leaves (document 01, "The desk's order of checks", Lives): "Order: 1, 2, 3, 5, 20, 21".
-- `room` is the length of the lent table of lifetimes.
use Rattle.std.specs.Prelude.{ℕ, ◌*◌, Bool, true, false, not, ◌||◌, List, [], ◌∷◌, ◌++◌, ltb, eqb, ℤ, length}
use Rattle.answer.specs.declared.Answer.{Answer}
use Rattle.answer.specs.Answer as A
use Rattle.bounded.specs.Causes.{Cause, ◌⇒◌, first_cause}
use Rattle.bounded.specs.First.{first_in, holds_below}
use Rattle.bounded.specs.Replaced.{replaced}
use Rattle.lifetime_rule.specs.Uses.{greatest_operators, greatest_tensors, greatest_uses, count, whole_uses, bad_use}
use Rattle.lifetime_rule.specs.Lifetimes.{unnamed, too_early, lifetime_word}

-- "too many rows, operators or tensors; no operator".
unfoldable pub out_of_limits : ℕ → ℕ → List ℤ → Bool
out_of_limits operators tensors u =
    (ltb greatest_uses (count u) || ltb greatest_operators operators) || (ltb greatest_tensors tensors || eqb operators 0)

-- 1, 2 and 3. Two entries a tensor are asked for.
abbrev pub size_causes : ℕ → ℕ → List ℤ → ℕ → List (Cause Answer)
size_causes operators tensors u room =
    (not (whole_uses u) ⇒ A.refused A.not_whole_rows)
    ∷ (out_of_limits operators tensors u ⇒ A.refused A.too_many)
    ∷ (ltb room (tensors * 2) ⇒ A.refused A.table_too_short)
    ∷ []

-- 5: the lowest bad use.
abbrev pub use_causes : ℕ → ℕ → List ℤ → List (Cause Answer)
use_causes operators tensors u =
    (holds_below (bad_use operators tensors u) (count u) ⇒ A.refused_at A.bad_row (first_in (bad_use operators tensors u) 0 (count u))) ∷ []

-- 1, 2, 3, 5.
abbrev pub list_causes : ℕ → ℕ → List ℤ → ℕ → List (Cause Answer)
list_causes operators tensors u room = size_causes operators tensors u room ++ use_causes operators tensors u

-- 20: the lowest tensor never named.
abbrev pub name_causes : ℕ → ℕ → List ℤ → List (Cause Answer)
name_causes operators tensors u = (holds_below (unnamed operators u) tensors ⇒ A.refused_at A.tensor_never_named (first_in (unnamed operators u) 0 tensors)) ∷ []

-- 21: the lowest use that reads too early.
abbrev pub read_causes : List ℤ → List (Cause Answer)
read_causes u = (holds_below (too_early u) (count u) ⇒ A.refused_at A.read_before_written (first_in (too_early u) 0 (count u))) ∷ []

-- 20, 21.
abbrev pub lifetime_causes : ℕ → ℕ → List ℤ → List (Cause Answer)
lifetime_causes operators tensors u = name_causes operators tensors u ++ read_causes u

-- 1, 2, 3, 5, 20, 21.
abbrev pub causes : ℕ → ℕ → List ℤ → ℕ → List (Cause Answer)
causes operators tensors u room = list_causes operators tensors u room ++ lifetime_causes operators tensors u

-- The answer of the checks 1, 2 and 3 alone.
unfoldable pub sizes_of : ℕ → ℕ → List ℤ → ℕ → Answer
sizes_of operators tensors u room = first_cause (size_causes operators tensors u room) (A.done_with 0)

-- The answer of the checks 1, 2, 3 and 5 alone.
unfoldable pub list_of : ℕ → ℕ → List ℤ → ℕ → Answer
list_of operators tensors u room = first_cause (list_causes operators tensors u room) (A.done_with 0)

-- The answer of the checks 20 and 21 alone.
unfoldable pub judged_of : ℕ → ℕ → List ℤ → Answer
judged_of operators tensors u = first_cause (lifetime_causes operators tensors u) (A.done_with 0)

-- The answer: the first cause that holds, else done, with all zeros.
unfoldable pub lifetimes_of : ℕ → ℕ → List ℤ → ℕ → Answer
lifetimes_of operators tensors u room = first_cause (causes operators tensors u room) (A.done_with 0)

-- The lifetimes in the end: where the answer is done, two entries for each tensor, and the rest stays; on every refusal all stays.
unfoldable pub final_lifetimes : ℕ → ℕ → List ℤ → List ℤ → List ℤ
final_lifetimes operators tensors u lifetimes =
    elim (eqb (lifetimes_of operators tensors u (length lifetimes)).number A.done) [ true ↦ replaced (lifetime_word operators u) (tensors * 2) lifetimes | false ↦ lifetimes ]
