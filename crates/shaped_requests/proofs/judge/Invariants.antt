-- `shaped_requests::judge` meets its contract: the scan of the rows.
use Rattle.bounded.specs.First.{Scan}
use Rattle.shape_rule.specs.ShapeTable.{shape_count, bad_shape}
use Rattle.shaped_requests.proofs.judge.Given as goal

abbrev pub invariant-loop-row : goal.invariant-loop-row
invariant-loop-row l = Scan (bad_shape l.shapes) 0 (shape_count l.shapes) l.row-counter
