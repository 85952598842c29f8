-- `tensor_lifetimes::lowest_unnamed` meets its contract: the first tensor that the closure takes for unnamed.
use Prim.Native.Nat.{zero-le}
use Rattle.std.proofs.Common.{rules}
use Rattle.std.specs.Prelude.{◌≡◌}
use Rattle.bounded.specs.First.{found_in}
use Rattle.bounded.proofs.Found.{found_by_find}
use Rattle.tensor_lifetimes.specs.Gathered.{unnamed_in}
use Rattle.tensor_lifetimes.proofs.lowest_unnamed.Goals as goal

pub returns : goal.returns
returns c =
    let list = c.args.list.now in
    let gathered = c.args.gathered.now in
    let found : c.find.result ≡ found_in (unnamed_in list.operators gathered) 0 list.tensors =
    found_by_find (unnamed_in list.operators gathered) _ _ _ _ zero-le c.find.ensures.ran (λ x b q k. search rules) in
    search (rules, found)
