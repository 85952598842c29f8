-- `fixed_rows::first_pair` meets its contract: two nested scans, left at once.
use Rattle.std.specs.Prelude.{None, ◌≡◌}
use Rattle.bounded.specs.Pair.{Outer, Inner}
use Rattle.greedy_rule.specs.Plan.{fixed_collide}
use Rattle.fixed_rows.proofs.first_pair.Given as goal

abbrev pub invariant-loop-b : goal.invariant-loop-b
invariant-loop-b l = Inner (fixed_collide l.table.grid l.table.words.now) l.n l.a l.b × (l.pair ≡ None)

abbrev pub invariant-scan : goal.invariant-scan
invariant-scan l = Outer (fixed_collide l.table.grid l.table.words.now) l.n l.a × (l.pair ≡ None)
