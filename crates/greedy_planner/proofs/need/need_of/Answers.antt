-- `greedy_planner::need::need_of` meets its contract: the greatest end of the rows so far.
use Prim.Native.Nat.{◌<◌}
use mathlib.Core.Path.{◌∙◌, ap}
use native.Mathlib.Omega.{arith}
use Rattle.request_table.specs.Buffers.{buffer_at, end_or_zero}
use Rattle.request_table.specs.Table.{rows, request}
use Rattle.request_table.proofs.GoodRows.{good_size_lem}
use Rattle.request_table.proofs.Needs.{needing_start, needing_more, needing_done}
use Rattle.alignment.proofs.Rounding.{up_most}
use Rattle.greedy_rule.specs.Plan.{greedy_need}
use Rattle.greedy_planner.proofs.need.need_of.Goals as goal

pub loop-row-init : goal.loop-row-init
loop-row-init c = needing_start _ _ _

pub end_or_zero-requires : goal.end_or_zero-requires
end_or_zero-requires c =
    let u = c.args in
    let i = c.loop-row.row in
    let l : i < rows u.table.now.words.now = rw c.rows-row-end.ensures at c.loop-row-test.true in
    let o = c.requires.holds_plan.small i l in
    let s = good_size_lem _ _ (c.requires.good_rows.each i l) in
    let m = up_most u.table.now.grid (request u.table.now.words.now i).size in
    rw c.buffer.ensures (omega arith)

pub loop-row-preserved : goal.loop-row-preserved
loop-row-preserved c =
    let u = c.args in
    let i = c.loop-row.row in
    let l : i < rows u.table.now.words.now = rw c.rows-row-end.ensures at c.loop-row-test.true in
    let e = c.buffer.ensures ∙ ap (buffer_at u.table.now.grid u.table.now.words.now i) (c.requires.holds_plan.each i l) in
    needing_more c.loop-row.invariant l (c.end_or_zero.ensures ∙ ap end_or_zero e) c.max-need.ensures

pub returns : goal.returns
unfolding greedy_need
returns c = let l = c.loop-row-test.false in needing_done c.loop-row.invariant (omega arith)
