-- Laws of the definitions of specs/SoundHistory.antt.
use Rattle.std.specs.Prelude.{ℕ, ◌≡◌, take}
use mathlib.Core.List.{List, [], ◌∷◌}
use Rattle.std.proofs.Common.{◌∙◌, ap, arith}
use Rattle.answer.specs.Answer.{done}
use Rattle.bounded.proofs.Causes.{by_causes}
use Rattle.arena_sections.specs.Effects.{Keeping, Borrowing, Books, Does}
use Rattle.arena_sections.proofs.Effects.{goes_on, begins}
use Rattle.arena_sections.specs.History.{Operation, Event, Held, temp_by, outcome_of, after, events, tail_by, effect_of, applied, held_after, nothing_held, opened, state_after, held}
use Rattle.arena_sections.proofs.OperationEffects.{has_effect}
use Rattle.arena_sections.proofs.Room.{usable_says}
use Rattle.arena_sections.specs.Sections.{fresh, done_outcome, usable_length, open_causes, open_of}
use Rattle.arena_sections.specs.declared.Outcome.{Outcome}
use Rattle.arena_sections.specs.declared.Sections.{Sections}
use Rattle.arena_sections.specs.SoundHistory.{Sound, SoundHistory}

-- What agreeing books say.
pub books_sound : {usable : ℕ} {s : Sections} {h : Held} → Books usable s h → Sound usable s h
books_sound {usable} {s} {h} b =
    record {
      sum = kept.sum;
      kept_apart = kept.apart;
      kept_off_head = λ i m byte x y. omega (arith, (kept.inside i m byte x).0, y.below, b.ordered);
      kept_off_borrowed = λ i m j n byte x y. omega (arith, (kept.inside i m byte x).0, (out.inside j n byte y).1, b.ordered);
      borrowed_apart = out.apart;
      borrowed_off_head = λ i m byte x y. omega (arith, (out.inside i m byte x).0, y.below);
      kept_inside = λ i m byte x. (omega arith, (kept.inside i m byte x).1);
      borrowed_inside = λ i m byte x. (omega arith, omega (arith, (out.inside i m byte x).1, b.ordered, b.same_usable));
      head_is = b.head_is;
      temp_is = out.temp_is ∙ ap (λ (head : ℕ). temp_by head h.borrowed) b.head_is;
      tail_is = kept.tail_is;
    }
  where
    kept : Keeping usable s.tail h.kept
    kept = b.keeping

    out : Borrowing s.head s.temp h.borrowed
    out = b.borrowing

-- The books go on agreeing where an event has its effect, by the tail of the state or by that of what is held.
pub books_step : {usable : ℕ} {s t : Sections} {h : Held} (e : Event) → Books usable s h → Does (effect_of s.tail e) s t
    → Books usable t (applied (effect_of (tail_by usable h.kept) e) h)
books_step {usable} {s} {t} {h} e b d = goes_on (effect_of (tail_by usable h.kept) e) b (rw (← b.keeping.tail_is) d)

module _ (g usable : ℕ) where
  -- The books agree after every operation.
  runs : (ops : List Operation) (s : Sections) (h : Held) → Books usable s h → Books usable (after g s ops) (held_after usable h (events g s ops))
  unfolding after events held_after
  runs [] s h b = b
  runs (op ∷ ops) s h b =
      runs ops (outcome_of g s op).sections _ (books_step (record { operation = op; answer = (outcome_of g s op).answer }) b (has_effect g s op))

-- An accepted opening begins books that agree.
pub opening_begins : (g start len : ℕ) → (open_of g start len).answer.number ≡ done → Books (opened g start len).usable (opened g start len) nothing_held
unfolding open_of
opening_begins g start len =
    by_causes (λ (o : Outcome). o.answer.number ≡ done → Books o.sections.usable o.sections nothing_held)
    (open_causes g start len) (done_outcome 0 (fresh (usable_length g start len)))
    ((λ e. absurd (omega arith)), tt)
    (λ n e. begins (usable_length g start len) (usable_says g start len n.0).1)

-- Every history is sound, from an accepted opening on.
pub sound_history : (g start len : ℕ) (ops : List Operation) → (open_of g start len).answer.number ≡ done → SoundHistory g start len ops
sound_history g start len ops a =
    record {
      sound = books_sound (books ops);
      each_valid = λ k. (books (take k ops)).ordered;
      each_usable = λ k. (books (take k ops)).same_usable;
    }
  where
    books : (os : List Operation) → Books (opened g start len).usable (state_after g start len os) (held g start len os)
    books os = runs g (opened g start len).usable os (opened g start len) nothing_held (opening_begins g start len a)
