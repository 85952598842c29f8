-- `plan_text::put_rows` meets its contract: the lines of the rows passed are put, none longer than a line can be.
use Prim.Native.Nat.{◌≤◌}
use native.Mathlib.Omega.{arith}
use lib.ListN.{length}
use Rattle.text_pieces.proofs.Put.{put_no_line, put_both, put_length}
use Rattle.text_pieces.proofs.Pieces.{lines_more}
use Rattle.text_rule.specs.Text.{offset_in, row_line}
use Rattle.text_rule.proofs.TextLengths.{row_short}
use Rattle.plan_text.proofs.put_rows.Goals as goal

pub loop-row-init : goal.loop-row-init
loop-row-init c = (put_no_line _ _ _ (omega (arith, c.requires)), omega arith, omega arith)

pub put_row-next-requires : goal.put_row-next-requires
put_row-next-requires c =
    let at = c.loop-row in
    -- the line of the row has its greatest length at most
    let short : length (row_line at.row c.natural-offset.result) ≤ 22 =
    row_short _ _ (omega (arith, c.requires.0, c.loop-row-test.true)) (omega (arith, c.natural-offset.type_inv)) in
    record { holds = omega (arith, short, at.invariant.1, put_length at.invariant.0, c.requires.1, c.loop-row-test.true) }

pub loop-row-preserved : goal.loop-row-preserved
unfolding offset_in
loop-row-preserved c =
    let at = c.loop-row in
    let put = c.put_row-next.ensures in
    let short : length (row_line at.row c.natural-offset.result) ≤ 22 =
    row_short _ _ (omega (arith, c.requires.0, c.loop-row-test.true)) (omega (arith, c.natural-offset.type_inv)) in (
      rw lines_more (put_both at.invariant.0 (rw c.natural-offset.ensures at put)),
      omega (arith, short, put.ends, at.invariant.1),
      omega (arith, c.loop-row-test.true),
    )
