-- `plan_text::put_rows` meets its contract: the lines of the rows passed are put, none longer than a line can be.
use Prim.Native.Nat.{◌+◌, ◌*◌, ◌≤◌}
use lib.ListN.{length}
use Rattle.text_pieces.specs.Put.{Put}
use Rattle.text_rule.specs.Text.{offset_in, row_lines}
use Rattle.plan_text.proofs.put_rows.Given as goal

abbrev pub invariant-loop-row : goal.invariant-loop-row
invariant-loop-row l =
    Put l.initial.text l.text l.at l.next (row_lines (offset_in l.offsets) l.row) × (l.next ≤ l.at + 22 * l.row) × (l.row ≤ length l.offsets)
