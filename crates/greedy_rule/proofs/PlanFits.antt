-- Law: every offset of a done plan is at most 16,777,216, so that it is a signed word.
use Rattle.std.specs.Prelude.{ℕ, ◌<◌, ◌≤◌, Bool, true, false, List, ◌⊎◌, ◌≡◌, refl, ℤ}
use Rattle.std.proofs.Common.{inl, inr, arith}
use Rattle.bounded.proofs.Boolean.{lt_or_le}
use Rattle.request_table.specs.Buffers.{buffer_at}
use Rattle.request_table.proofs.GoodRows.{fixed_small}
use Rattle.request_table.specs.Limits.{greatest_space}
use Rattle.request_table.proofs.Needs.{need_bounds}
use Rattle.alignment.proofs.Rounding.{up_holds}
use Rattle.request_table.specs.Table.{rows, request, fixed}
use Rattle.greedy_rule.proofs.EmptyRows.{empty_at_zero}
use Rattle.greedy_rule.specs.Greedy.{greedy_plan}
use Rattle.greedy_rule.proofs.PlanByPosition.{fixed_rows_stay}
use Rattle.greedy_rule.specs.Plan.{greedy_need}
use Rattle.greedy_rule.proofs.Answers.{Done}

-- A nonempty row ends within the space, a fixed empty one has its own offset, and any other empty one offset 0.
pub plan_fits : (g : ℕ) (t : List ℤ) (space room : ℕ) → 0 < g → Done g t space room → (r : ℕ) → r < rows t → greedy_plan g t r ≤ greatest_space
unfolding greedy_need
plan_fits g t space room h d r l = go (lt_or_le 0 (buffer_at g t r (greedy_plan g t r)).length) (fixed t r) refl
  where
    go : (0 < (buffer_at g t r (greedy_plan g t r)).length) ⊎ ((buffer_at g t r (greedy_plan g t r)).length ≤ 0) → (b : Bool) → fixed t r ≡ b → greedy_plan g t r ≤ greatest_space
    go (inl n) b e = omega (arith, need_bounds g t (greedy_plan g t) r l n, d.fits, d.checks.allowed)
    go (inr n) true e = omega (arith, fixed_rows_stay g t r l e, fixed_small g t r (d.checks.good_rows r l) e)
    go (inr n) false e = omega (arith, empty_at_zero g t r (omega (arith, up_holds g (request t r).size h)) l e)
