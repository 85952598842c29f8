-- `fixed_rows::first_pair` meets its contract: two nested scans, left at once.
use Rattle.std.proofs.Common.{rules, sym, ◌∙◌, ap}
use Rattle.std.specs.Prelude.{false, ◌≡◌, refl}
use Rattle.std.specs.Option.{is_some}
use Rattle.request_table.specs.declared.Request.{Request}
use Rattle.request_table.specs.Table.{fixed}
use Rattle.request_table.proofs.GoodRows.{fixed_is}
use Rattle.bounded.proofs.First.{scan, pass}
use Rattle.bounded.proofs.Pair.{inner_out, inner_hit, outer_out}
use Rattle.fixed_rows.proofs.FixedPairs.{pair_found, none_found, loose_passed}
use Rattle.fixed_rows.proofs.first_pair.Goals as goal

pub scan-init : goal.scan-init
scan-init c = (scan _ _ _, refl)

pub loop-b-init : goal.loop-b-init
loop-b-init c = let i = c.scan.invariant in ((i.0, scan _ _ _), i.1)

pub loop-b-preserved : goal.loop-b-preserved
loop-b-preserved c = let i = c.loop-b.invariant in ((i.0.0, pass i.0.1 c.loop-b-test.true (sym c.fixed_collide.ensures ∙ c.if-fixed_collide.false)), i.1)

pub scan-preserved : goal.scan-preserved
scan-preserved c = let i = c.loop-b.invariant in (inner_out _ _ _ _ c.scan-test.true c.loop-b-test.false i.0, i.1)

pub scan-preserved-then-not-fixed : goal.scan-preserved-then-not-fixed
scan-preserved-then-not-fixed c =
    let i = c.scan.invariant in
    let t = c.args.table.now.words.now in
    let loose : c.is_some-fixed.result ≡ false = search rules in
    let f : fixed t c.scan.a ≡ false = sym (fixed_is t c.scan.a) ∙ ap (λ (x : Request). is_some x.offset) (sym c.request-first.ensures) ∙ sym c.is_some-fixed.ensures ∙ loose in
    (loose_passed _ t _ _ f c.scan-test.true i.0, i.1)

pub returns-after-scan : goal.returns-after-scan
returns-after-scan c =
    let i = c.scan.invariant in
    i.1 ∙ none_found _ _ (rw c.rows-n.ensures at (outer_out _ _ _ c.scan-test.false i.0))

pub returns-then-fixed_collide : goal.returns-then-fixed_collide
returns-then-fixed_collide c =
    pair_found _ _ _ _
    (rw c.rows-n.ensures at (inner_hit _ _ _ _ c.scan-test.true c.loop-b-test.true (sym c.fixed_collide.ensures ∙ c.if-fixed_collide.true) c.loop-b.invariant.0))
