-- `request_rows::lowest_bad_row` meets its contract: the first row that the closure refuses.
use Rattle.std.specs.Prelude.{refl}
use Rattle.std.proofs.Common.{rules}
use Rattle.std.specs.Prelude.{◌≡◌}
use Rattle.bounded.specs.First.{found_in}
use Rattle.bounded.proofs.Found.{found_up_to}
use Rattle.request_table.specs.Table.{bad_row, rows}
use Rattle.request_rows.proofs.Tests.{bad_is}
use Rattle.request_rows.proofs.Table.lowest_bad_row.Goals as goal

pub returns : goal.returns
returns c =
    let t = c.args.self.now in
    let found : c.find.result ≡ found_in (bad_row t.grid t.words.now) 0 (rows t.words.now) =
    found_up_to (bad_row t.grid t.words.now) (rows t.words.now) _ _ _ _ refl c.rows.ensures c.find.ensures.ran (λ x b q k. search (rules, bad_is)) in
    search (rules, found)
