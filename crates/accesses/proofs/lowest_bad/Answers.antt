-- `accesses::lowest_bad` meets its contract: the first touch that the closure refuses.
use Rattle.std.proofs.Common.{rules}
use Rattle.std.specs.Prelude.{refl}
use Rattle.access_rule.specs.Accesses.{count, bad_access}
use Rattle.bounded.proofs.Found.{found_up_to}
use Rattle.accesses.proofs.lowest_bad.Goals as goal

pub returns : goal.returns
returns c =
    let u = c.args in
    found_up_to (bad_access u.table.now.words.now u.accesses.now) (count u.accesses.now) _ _ _ _ refl refl c.find.ensures.ran (λ x b q k. search rules)
