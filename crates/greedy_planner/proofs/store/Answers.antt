-- `greedy_planner::store` meets its contract: the entries so far are replaced.
use mathlib.Core.Path.{sym, ◌∙◌, ap}
use mathlib.Core.List.{List}
use native.Mathlib.Omega.{arith}
use lib.IntN.{ℤ, pos}
use lib.ListN.{set}
use mir.Facts.{to_z_pos}
use mir.Syntax.{w32}
use Rattle.bounded.proofs.Replaced.{replaced_none, replaced_more}
use Rattle.greedy_planner.specs.Arrays.{offset_in}
use Rattle.greedy_planner.proofs.store.Goals as goal

pub loop-row-init : goal.loop-row-init
loop-row-init c = sym (replaced_none _ _)

pub loop-row-preserved : goal.loop-row-preserved
loop-row-preserved c =
    let found = c.args.found.now in
    let row = c.loop-row.row in
    let l = c.loop-row-test.true in
    rw (to_z_pos w32 {n = offset_in found row} (c.requires.small_offsets.each row (omega arith)))
    (ap (λ (xs : List ℤ). set xs row (pos (offset_in found row))) c.loop-row.invariant ∙ replaced_more (λ r. pos (offset_in found r)) row _)
