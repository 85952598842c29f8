-- Law: what an allocation through the ledger answers, and when, and what it hands back, in plain terms. No two of its cases hold together and one always
-- does, so each number is given exactly where it is stated. Past what the ledger refuses it is the sections' own, of which `arena_sections` `Outcomes`
-- says the rest.
use Rattle.std.specs.Prelude.{ℕ, ◌+◌, ◌-◌, ◌<◌, ◌≤◌, Bool, true, false, ◌⊎◌, ◌≡◌, refl, length}
use Rattle.std.proofs.Common.{inl, inr, sym, ◌∙◌, ap, arith}
use Rattle.alignment.specs.Alignments.{Allowed, allowed}
use Rattle.alignment.proofs.Alignments.{allowed_says, allowed_of}
use Rattle.answer.specs.Answer.{refused, sections_not_valid, bad_alignment, bad_allocation_kind, too_many}
use Rattle.answer.specs.declared.Answer.{Answer}
use Rattle.arena_sections.specs.Cases.{number_of}
use Rattle.arena_sections.specs.Ordered.{Ordered}
use Rattle.arena_sections.proofs.Ordered.{valid_says, valid_of}
use Rattle.arena_sections.specs.Sections.{valid, gap_below, persistent_done, persistent_of}
use Rattle.arena_sections.specs.declared.Outcome.{Outcome}
use Rattle.arena_sections.specs.declared.Sections.{Sections}
use Rattle.bounded.proofs.Boolean.{contrary, lt_or_le}
use Rattle.bounded.proofs.Causes.{by_causes}
use Rattle.recording_rule.specs.Balance.{Balanced}
use Rattle.recording_rule.proofs.Balance.{balanced_says, balanced_of, with_same, with_other}
use Rattle.recording_rule.proofs.Cases.{by_state, by_ledger, by_alignment, by_kind, by_count, by_sections, recorded_ledger, refused_ledger, recorded_says}
use Rattle.recording_rule.specs.Kinds.{Named}
use Rattle.recording_rule.proofs.NamedKinds.{named_of, named_says}
use Rattle.recording_rule.specs.Ledger.{kind_count, greatest_count, of_kind, balanced, with_keep, with_keep_of}
use Rattle.recording_rule.specs.Recording.{recording_causes, recorded_of, recording_of}
use Rattle.recording_rule.specs.declared.Ledger.{Ledger}
use Rattle.recording_rule.specs.declared.RecordedAllocation.{RecordedAllocation}

abbrev answer_of : Outcome → Answer
answer_of o = o.answer

module _ (g : ℕ) (s : Sections) (l : Ledger) (kind size a : ℕ) where
  -- What it answers: "Order of checks: 13 .., 14, 25 (another code), 2 (a kind that has its 65,535 keeps), 15."
  pub data Answered : Type 0 where
    state_not_valid : (Ordered s → ⊥) → (recording_of g s l kind size a).answer ≡ refused sections_not_valid → Answered
    not_balanced : Ordered s → (Balanced l (s.usable - s.tail) → ⊥) → (recording_of g s l kind size a).answer ≡ refused sections_not_valid → Answered
    not_allowed : Ordered s → Balanced l (s.usable - s.tail) → (Allowed g a → ⊥) → (recording_of g s l kind size a).answer ≡ refused bad_alignment → Answered
    no_such_kind : Ordered s → Balanced l (s.usable - s.tail) → Allowed g a → (Named kind → ⊥) → (recording_of g s l kind size a).answer ≡ refused bad_allocation_kind → Answered
    kind_full : Ordered s → Balanced l (s.usable - s.tail) → Allowed g a → Named kind → 65535 ≤ (of_kind l kind).count → (recording_of g s l kind size a).answer ≡ refused too_many → Answered
    sections_own : Ordered s → Balanced l (s.usable - s.tail) → Allowed g a → Named kind → (of_kind l kind).count < 65535
        → (recording_of g s l kind size a).answer ≡ (persistent_of g s size a).answer → (recording_of g s l kind size a).sections ≡ (persistent_of g s size a).sections → Answered

  -- It answers one of these.
  pub answered : Answered
  answered = go (valid s) (balanced l (s.usable - s.tail)) (allowed g a) refl refl refl (lt_or_le kind kind_count) (lt_or_le (of_kind l kind).count greatest_count)
    where
      go : (v b w : Bool) → valid s ≡ v → balanced l (s.usable - s.tail) ≡ b → allowed g a ≡ w
          → (kind < kind_count) ⊎ (kind_count ≤ kind) → ((of_kind l kind).count < greatest_count) ⊎ (greatest_count ≤ (of_kind l kind).count) → Answered
      go false b w p q r x y = state_not_valid (λ o. contrary (valid_of s o) p) (ap answer_of (sym (by_state g s l kind size a p)))
      go true false w p q r x y = not_balanced (valid_says s p) (λ o. contrary (balanced_of l _ o) q) (ap answer_of (sym (by_ledger g s l kind size a p q)))
      go true true false p q r x y =
          not_allowed (valid_says s p) (balanced_says l _ q) (λ o. contrary (allowed_of g a o) r) (ap answer_of (sym (by_alignment g s l kind size a p q r)))
      go true true true p q r (inr m) y =
          no_such_kind (valid_says s p) (balanced_says l _ q) (allowed_says g a r) (λ n. absurd (omega (arith, named_says kind n))) (ap answer_of (sym (by_kind g s l kind size a p q r m)))
      go true true true p q r (inl h) (inr m) =
          kind_full (valid_says s p) (balanced_says l _ q) (allowed_says g a r) (named_of kind h) m (ap answer_of (sym (by_count g s l kind size a p q r h m)))
      go true true true p q r (inl h) (inl m) =
          let e = sym (by_sections g s l kind size a p q r h m) in
          sections_own (valid_says s p) (balanced_says l _ q) (allowed_says g a r) (named_of kind h) m (ap answer_of e) (ap (λ (o : Outcome). o.sections) e)

  -- "Refusals hand both back unchanged."
  pub record Unchanged : Type 0 where
    pub sections_stay : (recording_of g s l kind size a).sections ≡ s
    pub ledger_stays : (recording_of g s l kind size a).ledger ≡ l

  -- It is so of every refusal.
  pub refusal_keeps : ((recording_of g s l kind size a).answer.number ≡ 0 → ⊥) → Unchanged
  unfolding recorded_of
  refusal_keeps n =
      record {
        sections_stay =
            by_causes (λ (o : Outcome). (number_of o ≡ 0 → ⊥) → o.sections ≡ s) (recording_causes g s l kind size a) (persistent_done s size a)
            ((λ h. refl), ((λ h. refl), ((λ h. refl), ((λ h. refl), ((λ h. refl), ((λ h. refl), tt)))))) (λ m h. absurd (h refl)) n;
        ledger_stays = refused_ledger g s l kind size a n;
      }

  -- What an accepted keep changes in the ledger: of its kind the size is requested, the size and the gap are used, and it is one more; every other kind stays.
  pub record Counted : Type 0 where
    pub requested_is : (of_kind (recording_of g s l kind size a).ledger kind).requested ≡ (of_kind l kind).requested + size
    pub used_is : (of_kind (recording_of g s l kind size a).ledger kind).used ≡ (of_kind l kind).used + (size + gap_below s.tail size a)
    pub count_is : (of_kind (recording_of g s l kind size a).ledger kind).count ≡ (of_kind l kind).count + 1
    pub others_stay : (other : ℕ) → (other ≡ kind → ⊥) → of_kind (recording_of g s l kind size a).ledger other ≡ of_kind l other

  -- It is so of every accepted keep. (A ledger of the code has an entry for each kind.)
  pub counted : length l.kinds ≡ kind_count → (recording_of g s l kind size a).answer.number ≡ 0 → Counted
  counted long e =
      record {
        requested_is = ap (λ (r : RecordedAllocation). r.requested) same;
        used_is = ap (λ (r : RecordedAllocation). r.used) same;
        count_is = ap (λ (r : RecordedAllocation). r.count) same;
        others_stay = λ other n. ap (λ (m : Ledger). of_kind m other) next ∙ with_other l kind size gap here other n;
      }
    where
      gap : ℕ
      gap = gap_below s.tail size a

      next : (recording_of g s l kind size a).ledger ≡ with_keep_of l kind size gap
      next = recorded_ledger g s l kind size a e

      here : kind < length l.kinds
      here = rw long (recorded_says g s l kind size a e).named

      same : of_kind (recording_of g s l kind size a).ledger kind ≡ with_keep (of_kind l kind) size gap
      same = ap (λ (m : Ledger). of_kind m kind) next ∙ with_same l kind size gap here
