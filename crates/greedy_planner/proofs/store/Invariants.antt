-- `greedy_planner::store` meets its contract: the entries so far are replaced.
use mathlib.Core.Path.{◌≡◌}
use lib.IntN.{pos}
use Rattle.bounded.specs.Replaced.{replaced}
use Rattle.greedy_planner.specs.Arrays.{offset_in}
use Rattle.greedy_planner.proofs.store.Given as goal

abbrev pub invariant-loop-row : goal.invariant-loop-row
invariant-loop-row l = l.offsets ≡ replaced (λ r. pos (offset_in l.found r)) l.row l.initial.offsets
