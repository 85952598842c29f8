-- `proposals::lowest_moved` meets its contract: the first row of which the closure says that it was moved.
use Rattle.std.specs.Prelude.{◌≡◌, refl}
use Rattle.std.proofs.Common.{rules}
use Rattle.bounded.specs.First.{found_in}
use Rattle.bounded.proofs.Found.{found_up_to}
use Rattle.request_table.specs.Table.{rows}
use Rattle.inspection_rule.specs.Inspect.{moved}
use Rattle.proposals.proofs.Proposal.lowest_moved.Goals as goal

pub returns : goal.returns
returns c =
    let p = c.args.self.now in
    let found : c.find.result ≡ found_in (moved p.table.words.now p.offsets.now) 0 (rows p.table.words.now) =
    found_up_to (moved p.table.words.now p.offsets.now) (rows p.table.words.now) _ _ _ _ refl c.rows.ensures c.find.ensures.ran (λ x b q k. search rules) in
    search (rules, found)
