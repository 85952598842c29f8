-- The greedy planner's answer and the final content of its table (document 01, "The desk's order of checks"): "Planner: 1, 2, 3, 4, 5, 6, 7. It writes
-- the offsets." `room` is the length of the lent answer table. The plan itself is the greedy rule's (`Greedy`).
use Rattle.std.specs.Prelude.{ℕ, Bool, true, false, ◌&&◌, List, [], ◌∷◌, ◌++◌, ltb, eqb, ℤ, pos, length}
use Rattle.answer.specs.declared.Answer.{Answer}
use Rattle.answer.specs.Answer as A
use Rattle.bounded.specs.Causes.{Cause, ◌⇒◌, first_cause}
use Rattle.bounded.specs.Pair.{pair_below, pair_first, pair_second}
use Rattle.bounded.specs.Replaced.{replaced}
use Rattle.request_table.specs.Buffers.{collide_in, need}
use Rattle.request_table.specs.Checks.{table_causes}
use Rattle.request_table.specs.Table.{rows, fixed, fixed_offset}
use Rattle.greedy_rule.specs.Greedy.{greedy_plan}

-- Two fixed rows collide, each at its own offset.
unfoldable pub fixed_collide : ℕ → List ℤ → ℕ → ℕ → Bool
fixed_collide g t a b = (fixed t a && fixed t b) && collide_in g t (fixed_offset t) a b

-- The need of the greedy plan.
unfoldable pub greedy_need : ℕ → List ℤ → ℕ
greedy_need g t = need g t (greedy_plan g t)

-- 6: two fixed rows collide, the least a, then the least b.
abbrev pub fixed_causes : ℕ → List ℤ → List (Cause Answer)
fixed_causes g t =
    (pair_below (fixed_collide g t) (rows t)
    ⇒ A.refused_pair A.fixed_rows_collide (pair_first (fixed_collide g t) (rows t)) (pair_second (fixed_collide g t) (rows t)))
    ∷ []

-- 7: the need exceeds the space.
abbrev pub need_causes : ℕ → List ℤ → ℕ → List (Cause Answer)
need_causes g t space = (ltb space (greedy_need g t) ⇒ A.refused_need A.need_exceeds_space (greedy_need g t)) ∷ []

-- 6, then 7.
abbrev pub own_causes : ℕ → List ℤ → ℕ → List (Cause Answer)
own_causes g t space = fixed_causes g t ++ need_causes g t space

-- 1 to 7.
abbrev pub plan_causes : ℕ → List ℤ → ℕ → ℕ → List (Cause Answer)
plan_causes g t space room = table_causes g t space room ++ own_causes g t space

-- Where no cause holds: done, with the need.
abbrev pub done_answer : ℕ → List ℤ → Answer
done_answer g t = A.done_with (greedy_need g t)

-- The answer past the checks 1 to 6.
unfoldable pub fit_of : ℕ → List ℤ → ℕ → Answer
fit_of g t space = first_cause (need_causes g t space) (done_answer g t)

-- The planner's answer: the first of 1 to 7 that holds, else done with the need.
unfoldable pub plan_of : ℕ → List ℤ → ℕ → ℕ → Answer
plan_of g t space room = first_cause (plan_causes g t space room) (done_answer g t)

-- The answer table in the end: where the answer is done, the first entries are the plan and the rest stays; on every refusal all stays.
unfoldable pub planned_table : ℕ → List ℤ → ℕ → List ℤ → List ℤ
planned_table g t space offsets =
    elim (eqb (plan_of g t space (length offsets)).number A.done) [
      | true ↦ replaced (λ r. pos (greedy_plan g t r)) (rows t) offsets
      | false ↦ offsets
    ]
