-- `request_rows::request_at` meets its contract.
use mathlib.Core.Path.{◌∙◌, ap}
use Rattle.words.specs.Words.{natural}
use Rattle.request_table.specs.Table.{fixed_at}
use Rattle.request_rows.proofs.Tests.{row_is}
use Rattle.request_rows.proofs.request_at.Goals as goal

pub returns : goal.returns
returns c =
    let place = c.place_of-at.ensures in
    row_is c.args.table.now c.args.row.0
    (c.natural-size.ensures ∙ ap natural c.place_of.ensures)
    (c.natural-first.ensures ∙ ap natural c.place_of-2.ensures)
    (c.natural-last.ensures ∙ ap natural c.place_of-3.ensures)
    (c.fixed_at-offset.ensures ∙ ap fixed_at place)
