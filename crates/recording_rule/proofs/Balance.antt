-- Laws of the definitions of specs/Balance.antt.
use Rattle.std.specs.Prelude.{ℕ, ◌+◌, ◌<◌, ◌≤◌, true, not, ◌≡◌, eqb, length}
use Rattle.std.proofs.Common.{arith, get_or-set_same, get_or-set_other}
use borrow.Author.Tests.{eqb-true, eq-eqb, le-ltb, ltb-false, not-true}
use Rattle.bounded.proofs.Boolean.{both, both_hold}
use Rattle.bounded.specs.First.{holds_below}
use Rattle.bounded.proofs.First.{none_holds, none_found}
use Rattle.bounded.proofs.Sums.{sum_set, entry_within}
use Rattle.recording_rule.specs.Ledger.{kind_count, nothing_recorded, of_kind, used_bytes, total_used, passes_used, balanced, with_keep, with_keep_of}
use Rattle.recording_rule.specs.declared.Ledger.{Ledger}
use Rattle.recording_rule.specs.Balance.{Balanced}

module _ (l : Ledger) (taken : ℕ) where
  -- What the test says,
  pub balanced_says : balanced l taken ≡ true → Balanced l taken
  unfolding balanced
  balanced_says e =
      let x = both (eqb (total_used l.kinds) taken) (not (holds_below (passes_used l) kind_count)) e in
      record {
        total = eqb-true _ _ x.0;
        within = λ kind h. ltb-false _ _ (none_holds (passes_used l) kind_count (not-true _ x.1) kind h);
      }

  -- and the other way.
  pub balanced_of : Balanced l taken → balanced l taken ≡ true
  unfolding balanced
  balanced_of b =
      both_hold _ _
      (eq-eqb _ _ b.total)
      (rw (none_found (passes_used l) kind_count (λ kind h. le-ltb _ _ (b.within kind h))))

-- No kind has more used bytes than all.
pub used_within : (l : Ledger) (kind : ℕ) → kind < length l.kinds → (of_kind l kind).used ≤ total_used l.kinds
unfolding total_used
used_within l kind h = entry_within used_bytes nothing_recorded l.kinds kind h

-- ---- one keep more

module _ (l : Ledger) (kind size gap : ℕ) (h : kind < length l.kinds) where
  -- The total grows by its size and gap.
  pub total_with : total_used (with_keep_of l kind size gap).kinds ≡ total_used l.kinds + (size + gap)
  unfolding total_used
  total_with = omega (arith, sum_set used_bytes nothing_recorded l.kinds kind (with_keep (of_kind l kind) size gap) h)

  -- It is recorded of its kind,
  pub with_same : of_kind (with_keep_of l kind size gap) kind ≡ with_keep (of_kind l kind) size gap
  with_same = get_or-set_same l.kinds kind (with_keep (of_kind l kind) size gap) nothing_recorded h

  -- and of no other.
  pub with_other : (other : ℕ) → (other ≡ kind → ⊥) → of_kind (with_keep_of l kind size gap) other ≡ of_kind l other
  with_other other n = get_or-set_other l.kinds kind other (with_keep (of_kind l kind) size gap) nothing_recorded n
