-- Which effect each operation has: a refusal none, an accepted one its own, with what the effect must meet.
use Rattle.std.specs.Prelude.{ℕ, ◌-◌, ◌++◌, ◌≡◌, refl, eqb}
use Rattle.std.proofs.Common.{arith}
use borrow.Author.Tests.{ltb-false, eqb-true, not-false}
use Rattle.alignment.specs.Alignments.{allowed}
use Rattle.alignment.proofs.Alignments.{allowed_says, allowed_some}
use Rattle.alignment.proofs.Rounding.{down_rest, up_holds}
use Rattle.bounded.proofs.Causes.{by_causes}
use Rattle.arena_sections.specs.Effects.{Does}
use Rattle.arena_sections.specs.History.{Operation, outcome_of, effect_of}
use Rattle.arena_sections.specs.History.Operation.{allocate_persistent, allocate_temp, reset_temp, set_head}
use Rattle.arena_sections.proofs.Room.{room_says, temp_room_says}
use Rattle.arena_sections.specs.Sections.{state_causes, allocation_causes, persistent_room, persistent_done, persistent_of, temp_room, temp_done, temp_of, reset_of, head_causes, head_of, done_outcome, with_temp, with_head}
use Rattle.arena_sections.specs.declared.Outcome.{Outcome}
use Rattle.arena_sections.specs.declared.Sections.{Sections}

module _ (g : ℕ) (s : Sections) where
  -- The operation's outcome is what its effect does.
  abbrev pub HasEffect : Operation → Outcome → Type 0
  HasEffect op o = Does (effect_of s.tail (record { operation = op; answer = o.answer })) s o.sections

  persistent_effect : (size a : ℕ) → HasEffect (allocate_persistent size a) (persistent_of g s size a)
  unfolding persistent_of
  persistent_effect size a =
      by_causes (HasEffect (allocate_persistent size a)) (allocation_causes g s a ++ persistent_room s size a) (persistent_done s size a) (refl, (refl, (refl, tt)))
      (λ n.
      let room = room_says s size a n.1.1.0 in
      (refl, room.1, omega (arith, room.0, down_rest a (s.tail - size))))

  temp_effect : (size a : ℕ) → HasEffect (allocate_temp size a) (temp_of g s size a)
  unfolding temp_of
  temp_effect size a =
      by_causes (HasEffect (allocate_temp size a)) (allocation_causes g s a ++ temp_room s size a) (temp_done s size a) (refl, (refl, (refl, tt)))
      (λ n.
      let p = allowed_says g a (not-false (allowed g a) n.1.0) in
      (refl, up_holds a s.temp (allowed_some g a p), temp_room_says s size a n.1.1.0))

  reset_effect : HasEffect reset_temp (reset_of s)
  unfolding reset_of
  reset_effect = by_causes (HasEffect reset_temp) (state_causes s) (done_outcome 0 (with_temp s s.head)) (refl, tt) (λ n. refl)

  head_effect : (length : ℕ) → HasEffect (set_head length) (head_of s length)
  unfolding head_of
  head_effect length =
      by_causes (HasEffect (set_head length)) (state_causes s ++ head_causes s length) (done_outcome 0 (with_head s length)) (refl, (refl, (refl, (refl, tt))))
      (λ n.
      let e : s.temp ≡ s.head = eqb-true _ _ (not-false (eqb s.temp s.head) n.1.0) in
      (refl, e, ltb-false _ _ n.1.1.0, ltb-false _ _ n.1.1.1.0))

  -- Every operation.
  pub has_effect : (op : Operation) → HasEffect op (outcome_of g s op)
  has_effect (allocate_persistent size a) = persistent_effect size a
  has_effect (allocate_temp size a) = temp_effect size a
  has_effect reset_temp = reset_effect
  has_effect (set_head length) = head_effect length
