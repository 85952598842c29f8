-- `proposals::lowest_off_grid` meets its contract: the first row of which the closure says that it is off the grid.
use Rattle.std.specs.Prelude.{◌≡◌, refl}
use Rattle.std.proofs.Common.{rules}
use Rattle.bounded.specs.First.{found_in}
use Rattle.bounded.proofs.Found.{found_up_to}
use Rattle.inspection_rule.specs.Inspect.{off_grid}
use Rattle.proposals.proofs.lowest_off_grid.Goals as goal

pub returns : goal.returns
returns c =
    let u = c.args in
    let found : c.find.result ≡ found_in (off_grid u.grid u.offsets.now) 0 u.count =
    found_up_to (off_grid u.grid u.offsets.now) u.count _ _ _ _ refl refl c.find.ensures.ran (λ x b q k. search rules) in
    search (rules, found)
