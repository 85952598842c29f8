-- `plan_inspector::first_pair` meets its contract: two nested scans, left at once.
use Rattle.std.specs.Prelude.{None, ◌≡◌}
use Rattle.bounded.specs.Pair.{Outer, Inner}
use Rattle.inspection_rule.specs.Inspect.{proposed_collide}
use Rattle.plan_inspector.proofs.first_pair.Given as goal

abbrev pub invariant-loop-b : goal.invariant-loop-b
invariant-loop-b l =
    Inner (proposed_collide l.proposal.table.grid l.proposal.table.words.now l.proposal.offsets.now) l.n l.a l.b × (l.pair ≡ None)

abbrev pub invariant-scan : goal.invariant-scan
invariant-scan l = Outer (proposed_collide l.proposal.table.grid l.proposal.table.words.now l.proposal.offsets.now) l.n l.a × (l.pair ≡ None)
