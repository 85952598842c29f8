-- Laws of the definitions of specs/Cases.antt.
use Rattle.std.specs.Prelude.{ℕ, ◌+◌, ◌<◌, ◌≤◌, true, false, ◌≡◌}
use Rattle.std.proofs.Common.{inl, inr, ◌∙◌}
use Rattle.std.proofs.Math.Path.{refl, sym, ap}
use native.Mathlib.Omega.{arith}
use borrow.Author.Tests.{lt-ltb, le-ltb, ne_eqb, eq-eqb}
use Rattle.alignment.specs.Alignments.{loss, allowed}
use Rattle.answer.specs.Answer.{sections_not_valid, bad_alignment, no_room, temporaries_out, head_made_smaller}
use Rattle.bounded.specs.Causes.{NoneHolds, first_cause}
use Rattle.bounded.proofs.Causes.{follows_more, by_causes, passed, refused_stands}
use Rattle.arena_sections.proofs.Room.{not_usable_of, usable_of, full_of, room_of, temp_full_of, temp_room_of}
use Rattle.arena_sections.specs.Sections.{greatest_length, zeros, fresh, valid, with_temp, with_head, refused_outcome, done_outcome, usable_length, open_of, allocation_causes, allocation_of, persistent_start, persistent_room, persistent_done, persistent_of, temp_start, temp_room, temp_done, temp_of, reset_of, head_of}
use Rattle.arena_sections.specs.declared.Outcome.{Outcome}
use Rattle.arena_sections.specs.declared.Sections.{Sections}
use Rattle.arena_sections.specs.Cases.{number_of}

-- ---- opening

module _ (g start length : ℕ) where
  -- Shorter than what is lost.
  pub open_short : length < loss g start → refused_outcome sections_not_valid zeros ≡ open_of g start length
  unfolding open_of
  open_short l = rw (not_usable_of g start length (inl l), first_cause)

  -- Too long.
  pub open_long : greatest_length < usable_length g start length → refused_outcome sections_not_valid zeros ≡ open_of g start length
  unfolding open_of
  open_long m = rw (not_usable_of g start length (inr m), first_cause)

  -- Opened.
  pub open_done : loss g start ≤ length → usable_length g start length ≤ greatest_length → done_outcome 0 (fresh (usable_length g start length)) ≡ open_of g start length
  unfolding open_of
  open_done l m = rw (usable_of g start length l m, first_cause)

-- ---- the checks 13 and 14

module _ (g : ℕ) (s : Sections) (a : ℕ) where
  -- The number that they give.
  abbrev pub allocation_number : ℕ
  allocation_number = number_of (allocation_of g s a)

  -- The state is not valid, whatever the alignment.
  pub allocation_not_valid : valid s ≡ false → sections_not_valid ≡ allocation_number
  unfolding allocation_of
  allocation_not_valid v = rw (v, first_cause)

  -- The alignment is not allowed.
  pub allocation_not_allowed : valid s ≡ true → allowed g a ≡ false → bad_alignment ≡ allocation_number
  unfolding allocation_of
  allocation_not_allowed v w = rw (v, w, first_cause)

  -- Both pass.
  pub allocation_passes : valid s ≡ true → allowed g a ≡ true → 0 ≡ allocation_number
  unfolding allocation_of
  allocation_passes v w = rw (v, w, first_cause)

  -- Where they passed, neither holds.
  pub allocation_passed : allocation_number ≡ 0 → NoneHolds (allocation_causes g s a)
  unfolding allocation_of
  allocation_passed e = (passed number_of (allocation_causes g s a) (done_outcome 0 s) (omega arith, (omega arith, tt)) e).0

  allocation_refusal : {n : ℕ} → n ≡ allocation_number → (n ≡ 0 → ⊥) → refused_outcome n s ≡ allocation_of g s a
  unfolding allocation_of
  allocation_refusal e h =
      ap (λ (n : ℕ). refused_outcome n s) e
      ∙ by_causes (λ (o : Outcome). (number_of o ≡ 0 → ⊥) → refused_outcome (number_of o) s ≡ o) (allocation_causes g s a) (done_outcome 0 s)
      ((λ k. refl), ((λ k. refl), tt))
      (λ n k. absurd (k refl))
      (λ z. h (e ∙ z))

-- ---- the allocations

module _ (g : ℕ) (s : Sections) (size a : ℕ) where
  -- A refusal by 13 or 14 is the persistent allocation's,
  pub persistent_checked : {n : ℕ} → n ≡ allocation_number g s a → (n ≡ 0 → ⊥) → refused_outcome n s ≡ persistent_of g s size a
  unfolding allocation_of persistent_of
  persistent_checked e h =
      allocation_refusal g s a e h
      ∙ refused_stands number_of (allocation_causes g s a) (persistent_room s size a) (done_outcome 0 s) (persistent_done s size a) refl (λ z. h (e ∙ z))

  -- and the temporary one's.
  pub temp_checked : {n : ℕ} → n ≡ allocation_number g s a → (n ≡ 0 → ⊥) → refused_outcome n s ≡ temp_of g s size a
  unfolding allocation_of temp_of
  temp_checked e h =
      allocation_refusal g s a e h
      ∙ refused_stands number_of (allocation_causes g s a) (temp_room s size a) (done_outcome 0 s) (temp_done s size a) refl (λ z. h (e ∙ z))

  -- Past them the room decides.
  module _ (p : allocation_number g s a ≡ 0) where
    persistent_decides : first_cause (persistent_room s size a) (persistent_done s size a) ≡ persistent_of g s size a
    unfolding persistent_of
    persistent_decides = sym (follows_more (allocation_causes g s a) (persistent_room s size a) (persistent_done s size a) (allocation_passed g s a p))

    temp_decides : first_cause (temp_room s size a) (temp_done s size a) ≡ temp_of g s size a
    unfolding temp_of
    temp_decides = sym (follows_more (allocation_causes g s a) (temp_room s size a) (temp_done s size a) (allocation_passed g s a p))

    -- More than all that is below the tail.
    pub persistent_too_large : s.tail < size → refused_outcome no_room s ≡ persistent_of g s size a
    persistent_too_large l = (rw (full_of s size a (inl l), first_cause)) ∙ persistent_decides

    -- Into the temporaries.
    pub persistent_no_room : persistent_start s size a < s.temp → refused_outcome no_room s ≡ persistent_of g s size a
    persistent_no_room m = (rw (full_of s size a (inr m), first_cause)) ∙ persistent_decides

    -- There is room.
    pub persistent_room_lem : size ≤ s.tail → s.temp ≤ persistent_start s size a → persistent_done s size a ≡ persistent_of g s size a
    persistent_room_lem l m = (rw (room_of s size a l m, first_cause)) ∙ persistent_decides

    -- Into persistent memory.
    pub temp_no_room : s.tail < temp_start s a + size → refused_outcome no_room s ≡ temp_of g s size a
    temp_no_room l = (rw (temp_full_of s size a l, first_cause)) ∙ temp_decides

    -- There is room.
    pub temp_room_lem : temp_start s a + size ≤ s.tail → temp_done s size a ≡ temp_of g s size a
    temp_room_lem l = (rw (temp_room_of s size a l, first_cause)) ∙ temp_decides

-- ---- the reset, and setting the head

module _ (s : Sections) where
  -- A state that is not valid is not reset,
  pub reset_not_valid : valid s ≡ false → refused_outcome sections_not_valid s ≡ reset_of s
  unfolding reset_of
  reset_not_valid v = rw (v, first_cause)

  -- and any other is.
  pub reset_done : valid s ≡ true → done_outcome 0 (with_temp s s.head) ≡ reset_of s
  unfolding reset_of
  reset_done v = rw (v, first_cause)

  module _ (length : ℕ) where
    -- The state is not valid, whatever the length.
    pub head_not_valid : valid s ≡ false → refused_outcome sections_not_valid s ≡ head_of s length
    unfolding head_of
    head_not_valid v = rw (v, first_cause)

    -- Temporaries are out, whatever the length.
    pub head_temporaries_out : valid s ≡ true → (s.temp ≡ s.head → ⊥) → refused_outcome temporaries_out s ≡ head_of s length
    unfolding head_of
    head_temporaries_out v n = rw (v, ne_eqb _ _ n, first_cause)

    -- It would be smaller.
    pub head_smaller : valid s ≡ true → s.temp ≡ s.head → length < s.head → refused_outcome head_made_smaller s ≡ head_of s length
    unfolding head_of
    head_smaller v e l = rw (v, eq-eqb _ _ e, lt-ltb _ _ l, first_cause)

    -- Into persistent memory.
    pub head_no_room : valid s ≡ true → s.temp ≡ s.head → s.head ≤ length → s.tail < length → refused_outcome no_room s ≡ head_of s length
    unfolding head_of
    head_no_room v e l m = rw (v, eq-eqb _ _ e, le-ltb _ _ l, lt-ltb _ _ m, first_cause)

    -- There is room.
    pub head_room : valid s ≡ true → s.temp ≡ s.head → s.head ≤ length → length ≤ s.tail → done_outcome 0 (with_head s length) ≡ head_of s length
    unfolding head_of
    head_room v e l m = rw (v, eq-eqb _ _ e, le-ltb _ _ l, le-ltb _ _ m, first_cause)
