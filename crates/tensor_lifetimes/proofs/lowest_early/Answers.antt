-- `tensor_lifetimes::lowest_early` meets its contract: the first use that the closure takes for an early read.
use Rattle.std.specs.Prelude.{refl}
use Rattle.std.proofs.Common.{rules}
use Rattle.bounded.proofs.Found.{found_up_to}
use Rattle.lifetime_rule.specs.Uses.{count}
use Rattle.tensor_lifetimes.specs.Gathered.{early_in}
use Rattle.tensor_lifetimes.proofs.Judging.{early_test}
use Rattle.tensor_lifetimes.proofs.lowest_early.Goals as goal

pub returns : goal.returns
returns c =
    let list = c.args.list.now in
    found_up_to (early_in list.uses.now c.args.gathered.now) (count list.uses.now) _ _ _ _ refl c.count.ensures c.find.ensures.ran (λ x b q k. search (rules, early_test))
