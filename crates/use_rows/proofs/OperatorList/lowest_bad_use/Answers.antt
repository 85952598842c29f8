-- `use_rows::OperatorList::lowest_bad_use` meets its contract: the first use that the closure refuses.
use Rattle.std.specs.Prelude.{refl}
use Rattle.std.proofs.Common.{rules}
use Rattle.std.specs.Prelude.{◌≡◌}
use Rattle.bounded.specs.First.{found_in}
use Rattle.bounded.proofs.Found.{found_up_to}
use Rattle.lifetime_rule.specs.Uses.{bad_use, count}
use Rattle.use_rows.proofs.Tests.{bad_is}
use Rattle.use_rows.proofs.OperatorList.lowest_bad_use.Goals as goal

pub returns : goal.returns
returns c =
    let list = c.args.self.now in
    let found : c.find.result ≡ found_in (bad_use list.operators list.tensors list.uses.now) 0 (count list.uses.now) =
    found_up_to (bad_use list.operators list.tensors list.uses.now) (count list.uses.now) _ _ _ _ refl c.count.ensures c.find.ensures.ran (λ x b q k. search (rules, bad_is)) in
    search (rules, found)
