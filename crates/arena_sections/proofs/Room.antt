-- Law: what the tests of room say, in plain terms and both ways. Every other law and the code's proofs go by these.
use Rattle.std.specs.Prelude.{ℕ, ◌+◌, ◌<◌, ◌≤◌, true, false, ◌⊎◌, ◌≡◌, ltb}
use Rattle.std.proofs.Common.{inl, inr, arith}
use Rattle.std.proofs.Math.Logic.{⊎_map}
use borrow.Author.Tests.{ltb-true, ltb-false, lt-ltb, le-ltb}
use Rattle.alignment.specs.Alignments.{loss}
use Rattle.bounded.proofs.Boolean.{either, neither, neither_holds, refuted}
use Rattle.arena_sections.specs.Sections.{greatest_length, usable_length, not_usable, persistent_start, persistent_full, temp_start, temp_full}
use Rattle.arena_sections.specs.declared.Sections.{Sections}

module _ (s : Sections) (size a : ℕ) where
  -- "15 exactly if size > tail or start < temp": where it is given,
  pub full_says : persistent_full s size a ≡ true → (s.tail < size) ⊎ (persistent_start s size a < s.temp)
  unfolding persistent_full
  full_says e = ⊎_map (ltb-true s.tail size) (ltb-true (persistent_start s size a) s.temp) (either _ _ e)

  -- and where it is not,
  pub room_says : persistent_full s size a ≡ false → (size ≤ s.tail) × (s.temp ≤ persistent_start s size a)
  unfolding persistent_full
  room_says e =
      let x = neither (ltb s.tail size) (ltb (persistent_start s size a) s.temp) e in
      (ltb-false _ _ x.0, ltb-false _ _ x.1)

  -- and the other way.
  pub full_of : (s.tail < size) ⊎ (persistent_start s size a < s.temp) → persistent_full s size a ≡ true
  full_of (inl l) = refuted _ (λ e. omega (arith, (room_says e).0))
  full_of (inr l) = refuted _ (λ e. omega (arith, (room_says e).1))

  -- There is room.
  pub room_of : size ≤ s.tail → s.temp ≤ persistent_start s size a → persistent_full s size a ≡ false
  unfolding persistent_full
  room_of l m = neither_holds _ _ (le-ltb _ _ l) (le-ltb _ _ m)

  -- "15 exactly if that exceeds tail": where it is given,
  pub temp_full_says : temp_full s size a ≡ true → s.tail < temp_start s a + size
  unfolding temp_full
  temp_full_says e = ltb-true _ _ e

  -- and where it is not,
  pub temp_room_says : temp_full s size a ≡ false → temp_start s a + size ≤ s.tail
  unfolding temp_full
  temp_room_says e = ltb-false _ _ e

  -- and the other way.
  pub temp_full_of : s.tail < temp_start s a + size → temp_full s size a ≡ true
  unfolding temp_full
  temp_full_of l = lt-ltb _ _ l

  -- There is room.
  pub temp_room_of : temp_start s a + size ≤ s.tail → temp_full s size a ≡ false
  unfolding temp_full
  temp_room_of l = le-ltb _ _ l

module _ (g start length : ℕ) where
  -- "Number 13 if L is below the loss or the usable length is above 16,777,216": where it is not,
  pub usable_says : not_usable g start length ≡ false → (loss g start ≤ length) × (usable_length g start length ≤ greatest_length)
  unfolding not_usable
  usable_says e =
      let x = neither (ltb length (loss g start)) (ltb greatest_length (usable_length g start length)) e in
      (ltb-false _ _ x.0, ltb-false _ _ x.1)

  -- and the other way.
  pub usable_of : loss g start ≤ length → usable_length g start length ≤ greatest_length → not_usable g start length ≡ false
  unfolding not_usable
  usable_of l m = neither_holds _ _ (le-ltb _ _ l) (le-ltb _ _ m)

  -- Where it is.
  pub not_usable_of : (length < loss g start) ⊎ (greatest_length < usable_length g start length) → not_usable g start length ≡ true
  not_usable_of (inl l) = refuted _ (λ e. omega (arith, (usable_says e).0))
  not_usable_of (inr l) = refuted _ (λ e. omega (arith, (usable_says e).1))
