-- Done, the array's offsets are stored as the plan.
use Prim.Native.Nat.{ℕ}
use mathlib.Core.List.{List}
use mathlib.Core.Path.{◌≡◌, sym, ◌∙◌, ap}
use lib.IntN.{ℤ, pos}
use lib.ListN.{length}
use Rattle.bounded.proofs.Replaced.{replaced_same}
use Rattle.units.specs.declared.Offset.{Offset}
use Rattle.request_table.specs.Table.{rows}
use Rattle.greedy_rule.proofs.DonePlans.{done_table}
use Rattle.greedy_rule.specs.Greedy.{greedy_plan}
use Rattle.greedy_rule.specs.Plan.{plan_of, planned_table}
use Rattle.greedy_planner.specs.Arrays.{offset_in, HoldsPlan, stored_table}

pub table_planned : (g : ℕ) (t : List ℤ) (space : ℕ) (offsets : List ℤ) (found : List Offset) → (plan_of g t space (length offsets)).number ≡ 0 → HoldsPlan g t found
    → stored_table t found offsets ≡ planned_table g t space offsets
table_planned g t space offsets found e h =
    replaced_same (λ r. pos (offset_in found r)) (λ r. pos (greedy_plan g t r)) (rows t) offsets (λ r l. ap pos (h.each r l))
    ∙ sym (done_table g t space offsets e)
