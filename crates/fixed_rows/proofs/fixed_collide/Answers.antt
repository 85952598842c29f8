-- `fixed_rows::fixed_collide` meets its contract: both rows have an offset, or one has none.
use Rattle.std.proofs.Common.{◌∙◌}
use Rattle.std.proofs.Math.Path.{ap₂}
use Rattle.request_table.specs.Buffers.{collides}
use Rattle.fixed_rows.proofs.FixedPairs.{both_fixed, first_loose, second_loose}
use Rattle.fixed_rows.proofs.fixed_collide.Goals as goal

pub returns-in-Some-Some : goal.returns-in-Some-Some
returns-in-Some-Some c =
    let is = c.in-Some-Some in
    both_fixed _ _ _ _ _ _ c.requires c.request-second.ensures is.is-0 is.is-1
    (c.collide.ensures ∙ ap₂ collides c.buffer_at.ensures c.buffer_at-in-Some-Some.ensures)

pub returns-in_default : goal.returns-in_default
returns-in_default c = second_loose _ _ _ _ c.request-second.ensures c.in_default.is-1

pub returns-in_default-2 : goal.returns-in_default-2
returns-in_default-2 c = first_loose _ _ _ _ c.requires c.in_default.is-0
