-- `arena_recording::try_allocate_persistent` meets its contract: cause after cause, and past them the sections' own allocation.
use Rattle.std.proofs.Common.{◌≡◌, Err, sym, ap, ◌∙◌, arith, rules, refl}
use Rattle.answer.proofs.Told.{cause_tells}
use Rattle.arena_sections.proofs.Ordered.{valid_says}
use Rattle.ledger_entries.proofs.SixKinds.{six_kinds}
use Rattle.recording_rule.proofs.Cases.{by_state, by_ledger, by_checks, checks_passed, by_kind, by_count, own_stands, hands_back, goes_down, recordable, hands_on}
use Rattle.recording_rule.proofs.NamedKinds.{code_named}
use Rattle.recording_rule.specs.declared.RecordedAllocation.{RecordedAllocation}
use Rattle.arena_recording.proofs.try_allocate_persistent.Goals as goal

pub returns-then-not-is_valid : goal.returns-then-not-is_valid
returns-then-not-is_valid c = hands_back _ _ _ _ _ _ _ (by_state _ _ _ _ _ _ (sym c.is_valid.ensures ∙ c.if-not-is_valid.true)) (λ e. cc)

pub overflow_sub-sections : goal.overflow_sub-sections
overflow_sub-sections c = (valid_says _ (sym c.is_valid.ensures ∙ c.if-not-is_valid.false)).tail_usable

pub returns-then-not-is_balanced : goal.returns-then-not-is_balanced
returns-then-not-is_balanced c =
    let state = sym c.is_valid.ensures ∙ c.if-not-is_valid.false in
    hands_back _ _ _ _ _ _ _ (by_ledger _ _ _ _ _ _ state (sym c.is_balanced.ensures ∙ c.if-not-is_balanced.true)) (λ e. cc)

pub returns-in_err-check_allocation : goal.returns-in_err-check_allocation
returns-in_err-check_allocation c =
    let state = sym c.is_valid.ensures ∙ c.if-not-is_valid.false in
    let ledger = sym c.is_balanced.ensures ∙ c.if-not-is_balanced.false in
    let r : c.from_residual.result ≡ Err c.in_err-check_allocation.field-0.0 = search rules in
    let tells = cause_tells c.in_err-check_allocation.field-0.0 in
    rw r (hands_back _ _ _ _ _ _ _ (by_checks _ _ _ _ _ _ state ledger c.in_err-check_allocation.ensures tells) tells)

pub returns-in_err-kind : goal.returns-in_err-kind
returns-in_err-kind c =
    let state = sym c.is_valid.ensures ∙ c.if-not-is_valid.false in
    let ledger = sym c.is_balanced.ensures ∙ c.if-not-is_balanced.false in
    let alignment = checks_passed _ _ _ c.in_ok-check_allocation.ensures in
    let r : c.from_residual-in_err-kind.result ≡ Err c.in_err-kind.field-0.0 = search rules in
    let none = c.in_err-kind.ensures in
    rw (r, none.0) (hands_back _ _ _ _ _ _ _ (by_kind _ _ _ _ _ _ state ledger alignment none.1) (λ e. cc))

pub returns-then-of_kind-ge-GREATEST_COUNT : goal.returns-then-of_kind-ge-GREATEST_COUNT
returns-then-of_kind-ge-GREATEST_COUNT c =
    let state = sym c.is_valid.ensures ∙ c.if-not-is_valid.false in
    let ledger = sym c.is_balanced.ensures ∙ c.if-not-is_balanced.false in
    let alignment = checks_passed _ _ _ c.in_ok-check_allocation.ensures in
    let named = code_named _ _ c.in_ok-kind.ensures in
    let count = ap (λ (r : RecordedAllocation). r.count) c.of_kind.ensures in
    hands_back _ _ _ _ _ _ _ (by_count _ _ _ _ _ _ state ledger alignment named (omega (arith, count))) (λ e. cc)

pub returns-in_err-start : goal.returns-in_err-start
returns-in_err-start c =
    let named = code_named _ _ c.in_ok-kind.ensures in
    let r : c.from_residual-in_err-start.result ≡ Err c.in_err-start.field-0.0 = search rules in
    let own =
    own_stands _ _ _ _ _ _ c.is_valid.ensures c.if-not-is_valid.false c.is_balanced.ensures c.if-not-is_balanced.false c.in_ok-check_allocation.ensures
    named c.of_kind.ensures (omega arith) c.in_err-start.ensures
    in
    rw r (hands_back _ _ _ _ _ _ _ own (cause_tells c.in_err-start.field-0.0))

pub overflow_sub-taken : goal.overflow_sub-taken
overflow_sub-taken c =
    let named = code_named _ _ c.in_ok-kind.ensures in
    let own =
    own_stands _ _ _ _ _ _ c.is_valid.ensures c.if-not-is_valid.false c.is_balanced.ensures c.if-not-is_balanced.false c.in_ok-check_allocation.ensures
    named c.of_kind.ensures (omega arith) c.in_ok-start.ensures
    in
    goes_down _ _ _ _ _ _ _ own refl

pub with_allocation-requires : goal.with_allocation-requires
with_allocation-requires c =
    let named = code_named _ _ c.in_ok-kind.ensures in
    let own =
    own_stands _ _ _ _ _ _ c.is_valid.ensures c.if-not-is_valid.false c.is_balanced.ensures c.if-not-is_balanced.false c.in_ok-check_allocation.ensures
    named c.of_kind.ensures (omega arith) c.in_ok-start.ensures
    in
    rw c.in_ok-kind.ensures (recordable _ _ _ _ _ _ _ own refl (six_kinds c.args.ledger _ c.well_formed.1.0))

pub returns : goal.returns
returns c =
    let named = code_named _ _ c.in_ok-kind.ensures in
    let own =
    own_stands _ _ _ _ _ _ c.is_valid.ensures c.if-not-is_valid.false c.is_balanced.ensures c.if-not-is_balanced.false c.in_ok-check_allocation.ensures
    named c.of_kind.ensures (omega arith) c.in_ok-start.ensures
    in
    hands_on _ _ _ _ _ _ _ own refl _ (rw c.in_ok-kind.ensures at c.with_allocation.ensures)
