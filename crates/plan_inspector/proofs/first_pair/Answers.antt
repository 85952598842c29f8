-- `plan_inspector::first_pair` meets its contract: two nested scans, left at once.
use Rattle.std.proofs.Common.{sym, ◌∙◌, ap₂}
use Rattle.std.specs.Prelude.{refl}
use Rattle.bounded.proofs.First.{scan, pass}
use Rattle.bounded.proofs.Pair.{inner_out, inner_hit, outer_out}
use Rattle.request_table.specs.Buffers.{collides}
use Rattle.units.specs.Numbered.{row_of}
use Rattle.plan_inspector.proofs.FirstPairs.{pair_found, none_found}
use Rattle.plan_inspector.proofs.first_pair.Goals as goal

pub scan-init : goal.scan-init
scan-init c = (scan _ _ _, refl)

pub loop-b-init : goal.loop-b-init
loop-b-init c = let i = c.scan.invariant in ((i.0, scan _ _ _), i.1)

pub loop-b-preserved : goal.loop-b-preserved
loop-b-preserved c =
    let i = c.loop-b.invariant in
    ((i.0.0, pass i.0.1 c.loop-b-test.true (sym (c.collide.ensures ∙ ap₂ collides c.buffer-first.ensures c.buffer.ensures) ∙ c.if-collide.false)), i.1)

pub scan-preserved : goal.scan-preserved
scan-preserved c = let i = c.loop-b.invariant in (inner_out _ _ _ _ c.scan-test.true c.loop-b-test.false i.0, i.1)

pub returns-after-scan : goal.returns-after-scan
returns-after-scan c =
    let i = c.scan.invariant in
    i.1 ∙ none_found row_of _ _ (rw c.rows-n.ensures at (outer_out _ _ _ c.scan-test.false i.0))

pub returns-then-collide : goal.returns-then-collide
returns-then-collide c =
    pair_found row_of _ _
    (rw c.rows-n.ensures at
    (inner_hit _ _ _ _ c.scan-test.true c.loop-b-test.true (sym (c.collide.ensures ∙ ap₂ collides c.buffer-first.ensures c.buffer.ensures) ∙ c.if-collide.true) c.loop-b.invariant.0))
