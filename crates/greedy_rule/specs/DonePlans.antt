-- Law: what a done answer of the planner promises, and what a refusal leaves, written out over the answer and the final table.
use Rattle.std.specs.Prelude.{ℕ, ◌%◌, ◌<◌, ◌≤◌, true, false, ◌⊎◌, ◌≡◌, ℤ}
use mathlib.Core.List.{List}
use Rattle.std.proofs.Math.IntN.{pos}
use Rattle.std.proofs.Math.ListN.{length, get_or}
use Rattle.answer.specs.Answer.{done_with}
use Rattle.request_table.specs.Buffers.{buffer_at, end}
use Rattle.request_table.specs.Colliding.{Colliding}
use Rattle.request_table.specs.Needs.{EndsThere}
use Rattle.request_table.specs.Table.{rows, fixed, fixed_offset}
use Rattle.greedy_rule.specs.Greedy.{greedy_plan}
use Rattle.greedy_rule.specs.Plan.{greedy_need, plan_of, planned_table}
use Rattle.greedy_rule.specs.LowestPlace.{TakesLowest}

-- Of a table, a space and a lent answer table for which the planner is done.
pub record DonePlan (g : ℕ) (t : List ℤ) (space : ℕ) (lent : List ℤ) : Type 0 where
  -- done, the need carried, all else 0; the need is within the space
  pub answer : plan_of g t space (length lent) ≡ done_with (greedy_need g t)
  pub fits : greedy_need g t ≤ space
  -- the first entries are the plan, the rest is as lent
  pub long : length (planned_table g t space lent) ≡ length lent
  pub entries : (r : ℕ) → r < rows t → get_or (planned_table g t space lent) r (pos 0) ≡ pos (greedy_plan g t r)
  pub rest : (i : ℕ) → rows t ≤ i → get_or (planned_table g t space lent) i (pos 0) ≡ get_or lent i (pos 0)
  -- fixed rows have their own offsets; each other takes the lowest
  pub fixed_stay : (r : ℕ) → r < rows t → fixed t r ≡ true → greedy_plan g t r ≡ fixed_offset t r
  pub others : (r : ℕ) → r < rows t → fixed t r ≡ false → TakesLowest g t r
  -- every offset is on the grid
  pub aligned : (r : ℕ) → r < rows t → greedy_plan g t r % g ≡ 0
  -- no two rows collide
  pub apart : (a b : ℕ) → a < rows t → b < rows t → (a ≡ b → ⊥) → Colliding (buffer_at g t a (greedy_plan g t a)) (buffer_at g t b (greedy_plan g t b)) → ⊥
  -- the need is at least every nonempty row's end, and is one of them, or 0
  pub need_most : (r : ℕ) → r < rows t → 0 < (buffer_at g t r (greedy_plan g t r)).length → end (buffer_at g t r (greedy_plan g t r)) ≤ greedy_need g t
  pub need_taken : (greedy_need g t ≡ 0) ⊎ EndsThere g t (greedy_plan g t) (greedy_need g t)
