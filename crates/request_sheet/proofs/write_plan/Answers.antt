-- `request_sheet::write_plan` meets its contract: the planner has room for every row, and its answer and offsets are told.
use Prim.Native.Nat.{◌/◌, ◌≤◌}
use mathlib.Core.Path.{◌≡◌, ap}
use mathlib.Core.List.{◌++◌}
use native.Mathlib.Omega.{arith}
use lib.ListN.{length, take, drop}
use Rattle.text_pieces.proofs.Replied.{stands_as}
use Rattle.request_table.specs.Limits.{greatest_rows}
use Rattle.request_sheet.proofs.Lent.{as_filled, as_planned, offsets_lent, offsets_told}
use Rattle.request_sheet.proofs.Writing.{written}
use Rattle.request_sheet.proofs.write_plan.Goals as goal

pub returns : goal.returns
returns c =
    let t = c.args.requests.now in
    let zeros = c.filled-offsets.result in
    let long : greatest_rows ≡ length zeros = as_filled c.filled-offsets.ensures in
    let offsets = c.plan-answer.new.offsets in
    let front = offsets_lent t c.args.space zeros offsets c.requires.0 long c.plan-answer.auto.offsets in
    let planned = as_planned t c.args.space zeros offsets c.requires.0 long c.plan-answer.auto.offsets in
    let told = offsets_told t c.args.space zeros offsets c.requires.0 long c.plan-answer.auto.offsets c.plan-answer.ensures.answer c.plan-answer.ensures.table in
    let few : length (take (length t / 4) (offsets ++ drop (length t / 4) zeros)) ≤ greatest_rows = omega (arith, ap length front, planned, c.requires.0) in
    stands_as told (written few c.requires.1 c.write_answer.ensures.count c.write_answer.ensures.bytes)
