-- Laws of the definitions of specs/Outcomes.antt.
use Rattle.std.specs.Prelude.{ℕ, ◌+◌, ◌-◌, ◌<◌, ◌≤◌, Bool, true, false, ◌++◌, ◌⊎◌, ◌≡◌, refl}
use Rattle.std.proofs.Common.{inl, inr, sym, ap, arith}
use Rattle.alignment.specs.Alignments.{Allowed, loss, allowed}
use Rattle.alignment.proofs.Alignments.{allowed_says, allowed_of, allowed_some, loss_reaches, loss_least}
use Rattle.alignment.proofs.Rounding.{up_multiple, up_holds, up_least, down_multiple, down_within, down_greatest}
use Rattle.answer.specs.Answer.{done_at, refused, sections_not_valid, bad_alignment, no_room, temporaries_out, head_made_smaller}
use Rattle.answer.specs.declared.Answer.{Answer}
use Rattle.bounded.proofs.Boolean.{contrary, lt_or_le, same_or_not}
use Rattle.bounded.proofs.Causes.{by_causes}
use Rattle.arena_sections.specs.Cases.{number_of}
use Rattle.arena_sections.proofs.Cases.{allocation_number, open_short, open_long, open_done, allocation_not_valid, allocation_not_allowed, allocation_passes, persistent_checked, persistent_too_large, persistent_no_room, persistent_room_lem, temp_checked, temp_no_room, temp_room_lem, reset_not_valid, reset_done, head_not_valid, head_temporaries_out, head_smaller, head_no_room, head_room}
use Rattle.arena_sections.specs.History.{Operation, outcome_of}
use Rattle.arena_sections.specs.History.Operation.{allocate_persistent, allocate_temp, reset_temp, set_head}
use Rattle.arena_sections.specs.Ordered.{Ordered}
use Rattle.arena_sections.proofs.Ordered.{valid_says, valid_of}
use Rattle.arena_sections.specs.Sections.{greatest_length, zeros, fresh, valid, with_temp, with_head, refused_outcome, done_outcome, open_of, state_causes, allocation_causes, persistent_start, persistent_room, persistent_done, persistent_of, temp_start, temp_room, temp_done, temp_of, reset_of, head_causes, head_of}
use Rattle.arena_sections.specs.declared.Outcome.{Outcome}
use Rattle.arena_sections.specs.declared.Sections.{Sections}
use Rattle.arena_sections.specs.Outcomes.{HighestStart, Lost, LowestStart}

abbrev answer_of : Outcome → Answer
answer_of o = o.answer

module _ (g start length : ℕ) where
  -- What opening hands back.
  pub data Opening : Type 0 where
    too_short : (lost : ℕ) → Lost g start lost → length < lost → open_of g start length ≡ refused_outcome sections_not_valid zeros → Opening
    too_long : (lost usable : ℕ) → Lost g start lost → lost + usable ≡ length → greatest_length < usable → open_of g start length ≡ refused_outcome sections_not_valid zeros → Opening
    opened : (lost usable : ℕ) → Lost g start lost → lost + usable ≡ length → usable ≤ greatest_length → open_of g start length ≡ done_outcome 0 (fresh usable) → Opening

  -- On any grid above 0 it is one of these.
  pub opening : 0 < g → Opening
  opening h = go (lt_or_le length (loss g start)) (lt_or_le greatest_length (length - loss g start))
    where
      lost : Lost g start (loss g start)
      lost = record { reaches = loss_reaches g start h; least = loss_least g start h }

      go : (length < loss g start) ⊎ (loss g start ≤ length) → (greatest_length < length - loss g start) ⊎ (length - loss g start ≤ greatest_length) → Opening
      go (inl l) x = too_short (loss g start) lost l (sym (open_short g start length l))
      go (inr l) (inl m) = too_long (loss g start) (length - loss g start) lost (omega arith) m (sym (open_long g start length m))
      go (inr l) (inr m) = opened (loss g start) (length - loss g start) lost (omega arith) m (sym (open_done g start length l m))

module _ (g : ℕ) (s : Sections) (size a : ℕ) where
  -- What a persistent allocation answers: 13, 14, then "15 exactly if size > tail or start < temp".
  pub data Persistent : Type 0 where
    not_valid : (Ordered s → ⊥) → (persistent_of g s size a).answer ≡ refused sections_not_valid → Persistent
    not_allowed : Ordered s → (Allowed g a → ⊥) → (persistent_of g s size a).answer ≡ refused bad_alignment → Persistent
    too_large : Ordered s → Allowed g a → s.tail < size → (persistent_of g s size a).answer ≡ refused no_room → Persistent
    on_temporaries : Ordered s → Allowed g a → (start : ℕ) → HighestStart s size a start → start < s.temp → (persistent_of g s size a).answer ≡ refused no_room → Persistent
    kept : Ordered s → Allowed g a → (start : ℕ) → HighestStart s size a start → s.temp ≤ start → (persistent_of g s size a).answer ≡ done_at start → Persistent

  -- What a temporary allocation answers: 13, 14, then "15 exactly if that exceeds tail".
  pub data Temporary : Type 0 where
    not_valid : (Ordered s → ⊥) → (temp_of g s size a).answer ≡ refused sections_not_valid → Temporary
    not_allowed : Ordered s → (Allowed g a → ⊥) → (temp_of g s size a).answer ≡ refused bad_alignment → Temporary
    over_tail : Ordered s → Allowed g a → (start : ℕ) → LowestStart s a start → s.tail < start + size → (temp_of g s size a).answer ≡ refused no_room → Temporary
    borrowed : Ordered s → Allowed g a → (start : ℕ) → LowestStart s a start → start + size ≤ s.tail → (temp_of g s size a).answer ≡ done_at start → Temporary

  -- ---- the proofs

  highest_start : 0 < a → size ≤ s.tail → HighestStart s size a (persistent_start s size a)
  highest_start h l =
      record {
        aligned = down_multiple a (s.tail - size);
        fits = omega (arith, down_within a (s.tail - size));
        highest = λ other e m. down_greatest a (s.tail - size) h other e (omega arith);
      }

  lowest_start : 0 < a → LowestStart s a (temp_start s a)
  lowest_start h = record { aligned = up_multiple a s.temp; above = up_holds a s.temp h; lowest = up_least a s.temp h }

  -- the checks 13 and 14
  data Checks : Type 0 where
    not_valid : (Ordered s → ⊥) → sections_not_valid ≡ allocation_number g s a → Checks
    not_allowed : Ordered s → (Allowed g a → ⊥) → bad_alignment ≡ allocation_number g s a → Checks
    passed : Ordered s → Allowed g a → allocation_number g s a ≡ 0 → Checks

  checks : Checks
  checks = go (valid s) (allowed g a) refl refl
    where
      go : (v w : Bool) → valid s ≡ v → allowed g a ≡ w → Checks
      go false w v e = not_valid (λ o. contrary (valid_of s o) v) (allocation_not_valid g s a v)
      go true false v e = not_allowed (valid_says s v) (λ p. contrary (allowed_of g a p) e) (allocation_not_allowed g s a v e)
      go true true v e = passed (valid_says s v) (allowed_says g a e) (sym (allocation_passes g s a v e))

  -- A persistent allocation answers one of these.
  pub persistent : Persistent
  persistent = go checks (lt_or_le s.tail size) (lt_or_le (persistent_start s size a) s.temp)
    where
      go : Checks → (s.tail < size) ⊎ (size ≤ s.tail) → (persistent_start s size a < s.temp) ⊎ (s.temp ≤ persistent_start s size a) → Persistent
      go (not_valid f e) x y = not_valid f (ap answer_of (sym (persistent_checked g s size a e (λ z. omega arith))))
      go (not_allowed o f e) x y = not_allowed o f (ap answer_of (sym (persistent_checked g s size a e (λ z. omega arith))))
      go (passed o p z) (inl l) y = too_large o p l (ap answer_of (sym (persistent_too_large g s size a z l)))
      go (passed o p z) (inr l) (inl m) = on_temporaries o p _ (highest_start (allowed_some g a p) l) m (ap answer_of (sym (persistent_no_room g s size a z m)))
      go (passed o p z) (inr l) (inr m) = kept o p _ (highest_start (allowed_some g a p) l) m (ap answer_of (sym (persistent_room_lem g s size a z l m)))

  -- A temporary allocation answers one of these.
  pub temporary : Temporary
  temporary = go checks (lt_or_le s.tail (temp_start s a + size))
    where
      go : Checks → (s.tail < temp_start s a + size) ⊎ (temp_start s a + size ≤ s.tail) → Temporary
      go (not_valid f e) x = not_valid f (ap answer_of (sym (temp_checked g s size a e (λ z. omega arith))))
      go (not_allowed o f e) x = not_allowed o f (ap answer_of (sym (temp_checked g s size a e (λ z. omega arith))))
      go (passed o p z) (inl l) = over_tail o p _ (lowest_start (allowed_some g a p)) l (ap answer_of (sym (temp_no_room g s size a z l)))
      go (passed o p z) (inr l) = borrowed o p _ (lowest_start (allowed_some g a p)) l (ap answer_of (sym (temp_room_lem g s size a z l)))

-- ---- the reset, and setting the head

module _ (s : Sections) where
  -- What the reset answers.
  pub data Reset : Type 0 where
    not_valid : (Ordered s → ⊥) → (reset_of s).answer ≡ refused sections_not_valid → Reset
    reset : Ordered s → (reset_of s).answer ≡ done_at 0 → Reset

  -- It answers one of these.
  pub resetting : Reset
  resetting = go (valid s) refl
    where
      go : (v : Bool) → valid s ≡ v → Reset
      go false v = not_valid (λ o. contrary (valid_of s o) v) (ap answer_of (sym (reset_not_valid s v)))
      go true v = reset (valid_says s v) (ap answer_of (sym (reset_done s v)))

  module _ (length : ℕ) where
    -- What setting the head answers: 13, then "16 if temp ≠ head; 17 if below head; 15 if above tail".
    pub data Head : Type 0 where
      not_valid : (Ordered s → ⊥) → (head_of s length).answer ≡ refused sections_not_valid → Head
      temporaries_out_case : Ordered s → (s.temp ≡ s.head → ⊥) → (head_of s length).answer ≡ refused temporaries_out → Head
      smaller : Ordered s → s.temp ≡ s.head → length < s.head → (head_of s length).answer ≡ refused head_made_smaller → Head
      over_tail : Ordered s → s.temp ≡ s.head → s.head ≤ length → s.tail < length → (head_of s length).answer ≡ refused no_room → Head
      set : Ordered s → s.temp ≡ s.head → s.head ≤ length → length ≤ s.tail → (head_of s length).answer ≡ done_at 0 → Head

    -- It answers one of these.
    pub setting_head : Head
    setting_head = go (valid s) refl (same_or_not s.temp s.head) (lt_or_le length s.head) (lt_or_le s.tail length)
      where
        go : (v : Bool) → valid s ≡ v → (s.temp ≡ s.head) ⊎ (s.temp ≡ s.head → ⊥) → (length < s.head) ⊎ (s.head ≤ length) → (s.tail < length) ⊎ (length ≤ s.tail) → Head
        go false v x y z = not_valid (λ o. contrary (valid_of s o) v) (ap answer_of (sym (head_not_valid s length v)))
        go true v (inr n) y z = temporaries_out_case (valid_says s v) n (ap answer_of (sym (head_temporaries_out s length v n)))
        go true v (inl e) (inl l) z = smaller (valid_says s v) e l (ap answer_of (sym (head_smaller s length v e l)))
        go true v (inl e) (inr l) (inl m) = over_tail (valid_says s v) e l m (ap answer_of (sym (head_no_room s length v e l m)))
        go true v (inl e) (inr l) (inr m) = set (valid_says s v) e l m (ap answer_of (sym (head_room s length v e l m)))

-- ---- refusals

module _ (g : ℕ) (s : Sections) where
  abbrev StateKept : Outcome → Type 0
  StateKept o = (number_of o ≡ 0 → ⊥) → o.sections ≡ s

  -- "Every refusal leaves tables, arena and state unchanged."
  pub refusal_keeps : (op : Operation) → (number_of (outcome_of g s op) ≡ 0 → ⊥) → (outcome_of g s op).sections ≡ s
  unfolding persistent_of temp_of reset_of head_of
  refusal_keeps (allocate_persistent size a) =
      by_causes StateKept (allocation_causes g s a ++ persistent_room s size a) (persistent_done s size a)
      ((λ h. refl), ((λ h. refl), ((λ h. refl), tt))) (λ n h. absurd (h refl))
  refusal_keeps (allocate_temp size a) =
      by_causes StateKept (allocation_causes g s a ++ temp_room s size a) (temp_done s size a)
      ((λ h. refl), ((λ h. refl), ((λ h. refl), tt))) (λ n h. absurd (h refl))
  refusal_keeps reset_temp = by_causes StateKept (state_causes s) (done_outcome 0 (with_temp s s.head)) ((λ h. refl), tt) (λ n h. absurd (h refl))
  refusal_keeps (set_head length) =
      by_causes StateKept (state_causes s ++ head_causes s length) (done_outcome 0 (with_head s length))
      ((λ h. refl), ((λ h. refl), ((λ h. refl), ((λ h. refl), tt)))) (λ n h. absurd (h refl))
