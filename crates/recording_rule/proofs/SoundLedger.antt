-- Laws of the definitions of specs/SoundLedger.antt.
use Rattle.std.specs.Prelude.{ℕ, ◌+◌, ◌<◌, Bool, true, false, ◌⊎◌, ◌≡◌, refl, eqb, length}
use mathlib.Core.List.{List, [], ◌∷◌, ◌++◌, map, sum}
use Rattle.std.proofs.Common.{inl, inr, sym, ◌∙◌, ap, add-one, arith, eq-eqb, ne_eqb, length-set}
use Rattle.std.proofs.Math.Path.{subst}
use Rattle.std.proofs.lemmas.List.{get_or-replicate}
use Rattle.answer.specs.Answer.{done}
use Rattle.arena_sections.specs.Cases.{number_of}
use Rattle.arena_sections.specs.Effects.{Books, Does}
use Rattle.arena_sections.specs.History.{Kept, Held, tail_by, used, effect_by, effect_of, applied, held_after, nothing_held, opened}
use Rattle.arena_sections.specs.History.Effect.{nothing}
use Rattle.arena_sections.specs.History.Operation.{allocate_persistent}
use Rattle.arena_sections.proofs.OperationEffects.{HasEffect, has_effect}
use Rattle.arena_sections.specs.Sections.{allocation_causes, persistent_room, persistent_done, persistent_of, open_of}
use Rattle.arena_sections.specs.SoundHistory.{Sound}
use Rattle.arena_sections.proofs.SoundHistory.{books_sound, books_step, opening_begins}
use Rattle.arena_sections.specs.declared.Sections.{Sections}
use Rattle.bounded.proofs.Boolean.{same_or_not}
use Rattle.bounded.proofs.Causes.{by_causes, follows}
use Rattle.recording_rule.proofs.Balance.{total_with, with_same, with_other}
use Rattle.recording_rule.proofs.Cases.{recorded_ledger, refused_ledger, recorded_says}
use Rattle.recording_rule.specs.Ledger.{kind_count, nothing_recorded, empty_ledger, of_kind, total_used, with_keep, with_keep_of}
use Rattle.recording_rule.specs.RecordedHistory.{RecordedOperation, RecordedEvent, Keep, Audited, handed_back, audited_after, event_of, recorded_events, own_operation, own_event, kept_spans, kept_as, numbers_of, keeps_by, keeps_with, keeps_after, opened_audit, audited, keeps_of, held_by}
use Rattle.recording_rule.specs.RecordedHistory.RecordedOperation.{record_persistent, allocate_temporary, reset_temporaries, set_head_length}
use Rattle.recording_rule.specs.Recording.{recording_causes, recorded_of, ledger_after}
use Rattle.recording_rule.specs.declared.Ledger.{Ledger}
use Rattle.recording_rule.specs.declared.RecordedAllocation.{RecordedAllocation}
use Rattle.recording_rule.specs.SoundLedger.{SoundLedger, Tells}

kept_same : (k : Keep) (keeps : List Keep) → kept_as k.kind (k ∷ keeps) ≡ k.kept ∷ kept_as k.kind keeps
unfolding kept_as
kept_same k keeps = rw (kept_as, eq-eqb k.kind k.kind refl)

kept_other : (kind : ℕ) (k : Keep) (keeps : List Keep) → (kind ≡ k.kind → ⊥) → kept_as kind (k ∷ keeps) ≡ kept_as kind keeps
unfolding kept_as
kept_other kind k keeps n = rw (kept_as, ne_eqb k.kind kind (λ e. n (sym e)))

-- The numbers of one kept span more.
numbers_more : (k : Kept) (ks : List Kept) → with_keep (numbers_of ks) k.span.size k.gap ≡ numbers_of (k ∷ ks)
unfolding sum used
numbers_more k ks =
    let sizes : (numbers_of ks).requested + k.span.size ≡ (numbers_of (k ∷ ks)).requested = omega arith in
    let bytes : (numbers_of ks).used + (k.span.size + k.gap) ≡ (numbers_of (k ∷ ks)).used = omega arith in
    λ i. record { requested = sizes i; used = bytes i; count = add-one (length ks) i }

-- A keep of one of the kinds is recorded.
tells_more : {l : Ledger} {keeps : List Keep} → Tells l keeps → (k : Keep) → k.kind < kind_count
    → Tells (with_keep_of l k.kind k.kept.span.size k.kept.gap) (k ∷ keeps)
unfolding used
tells_more {l} {keeps} t k h =
    record {
      long = length-set l.kinds k.kind _ ∙ t.long;
      each = λ kind m. go kind m (same_or_not kind k.kind);
      total = omega (arith, total_with l k.kind k.kept.span.size k.kept.gap in_list, t.total);
    }
  where
    in_list : k.kind < length l.kinds
    in_list = rw t.long h

    go : (kind : ℕ) → kind < kind_count → (kind ≡ k.kind) ⊎ (kind ≡ k.kind → ⊥)
        → of_kind (with_keep_of l k.kind k.kept.span.size k.kept.gap) kind ≡ numbers_of (kept_as kind (k ∷ keeps))
    go kind m (inl e) =
        rw e
        (with_same l k.kind k.kept.span.size k.kept.gap in_list
        ∙ ap (λ (r : RecordedAllocation). with_keep r k.kept.span.size k.kept.gap) (t.each k.kind h)
        ∙ numbers_more k.kept (kept_as k.kind keeps)
        ∙ sym (ap numbers_of (kept_same k keeps)))
    go kind m (inr n) =
        with_other l k.kind k.kept.span.size k.kept.gap in_list kind n ∙ t.each kind m ∙ sym (ap numbers_of (kept_other kind k keeps n))

-- ---- what one operation does

module _ (g : ℕ) (s : Sections) (l : Ledger) (kind size a : ℕ) where
  -- An allocation through the ledger has the effect of the sections' own on what is held, or none.
  recorded_effect : HasEffect g s (allocate_persistent size a) (recorded_of g s l kind size a)
  unfolding recorded_of persistent_of
  recorded_effect =
      by_causes (HasEffect g s (allocate_persistent size a)) (recording_causes g s l kind size a) (persistent_done s size a)
      (refl, (refl, (refl, (refl, (refl, (refl, tt))))))
      (λ n.
      subst (HasEffect g s (allocate_persistent size a))
      (follows (allocation_causes g s a ++ persistent_room s size a) (persistent_done s size a) (n.0, (n.1.1.0, (n.1.1.1.1.1.0, tt))))
      (has_effect g s (allocate_persistent size a)))

-- An accepted event keeps by its operation,
accepted_keeps : (usable : ℕ) (keeps : List Keep) (e : RecordedEvent) → e.answer.number ≡ done → keeps_with usable keeps e ≡ keeps_by usable keeps e.operation e.answer.a
accepted_keeps usable keeps e p = rw (keeps_with, p)

-- and a refused one keeps nothing.
refused_keeps : (usable : ℕ) (keeps : List Keep) (e : RecordedEvent) → (e.answer.number ≡ done → ⊥) → keeps_with usable keeps e ≡ keeps
refused_keeps usable keeps e n = rw (keeps_with, ne_eqb e.answer.number done n)

-- The spans that an event keeps are those of the sections' own event.
same_with : (usable : ℕ) (keeps : List Keep) (h : Held) (e : RecordedEvent) → kept_spans keeps ≡ h.kept
    → kept_spans (keeps_with usable keeps e) ≡ (applied (effect_of (tail_by usable h.kept) (own_event e)) h).kept
same_with usable keeps h e q = go e.operation (eqb e.answer.number done)
  where
    go : (op : RecordedOperation) (b : Bool)
        → kept_spans (elim b [ true ↦ keeps_by usable keeps op e.answer.a | false ↦ keeps ])
        ≡ (applied (elim b [ true ↦ effect_by (tail_by usable h.kept) (own_operation op) e.answer.a | false ↦ nothing ]) h).kept
    go (record_persistent kind size a) true = rw q
    go (allocate_temporary size a) true = q
    go reset_temporaries true = q
    go (set_head_length length) true = q
    go (record_persistent kind size a) false = q
    go (allocate_temporary size a) false = q
    go reset_temporaries false = q
    go (set_head_length length) false = q

-- The ledger goes on telling what the keeps come to, whatever the operation.
module _ (g usable : ℕ) (x : Audited) (keeps : List Keep) (t : Tells x.ledger keeps) (q : x.sections.tail ≡ tail_by usable (kept_spans keeps)) where
  untouched : (b : Bool) → Tells x.ledger (elim b [ true ↦ keeps | false ↦ keeps ])
  untouched true = t
  untouched false = t

  tells_recorded : (kind size a : ℕ) → let op = record_persistent kind size a in Tells (handed_back g x op).ledger (keeps_with usable keeps (event_of g x op))
  tells_recorded kind size a = go (same_or_not (number_of (recorded_of g s l kind size a)) done)
    where
      s : Sections
      s = x.sections

      l : Ledger
      l = x.ledger

      go : (number_of (recorded_of g s l kind size a) ≡ done) ⊎ (number_of (recorded_of g s l kind size a) ≡ done → ⊥)
          → Tells (ledger_after g s l kind size a) (keeps_with usable keeps (event_of g x (record_persistent kind size a)))
      go (inl e) =
          rw (recorded_ledger g s l kind size a e, accepted_keeps usable keeps (event_of g x (record_persistent kind size a)) e, q)
          (tells_more t _ (recorded_says g s l kind size a e).named)
      go (inr n) = rw (refused_ledger g s l kind size a n, refused_keeps usable keeps (event_of g x (record_persistent kind size a)) n) t

  tells_on : (op : RecordedOperation) → Tells (handed_back g x op).ledger (keeps_with usable keeps (event_of g x op))
  tells_on (record_persistent kind size a) = tells_recorded kind size a
  tells_on (allocate_temporary size a) = untouched (eqb (event_of g x (allocate_temporary size a)).answer.number done)
  tells_on reset_temporaries = untouched (eqb (event_of g x reset_temporaries).answer.number done)
  tells_on (set_head_length length) = untouched (eqb (event_of g x (set_head_length length)).answer.number done)

-- ---- whole histories

-- Sections, ledger, what is held and the keeps agree.
record Agrees (usable : ℕ) (x : Audited) (h : Held) (keeps : List Keep) : Type 0 where
  books : Books usable x.sections h
  same_kept : kept_spans keeps ≡ h.kept
  tells : Tells x.ledger keeps

tail_by_lem : {usable : ℕ} {x : Audited} {h : Held} {keeps : List Keep} → Agrees usable x h keeps → x.sections.tail ≡ tail_by usable (kept_spans keeps)
tail_by_lem {usable} b = b.books.keeping.tail_is ∙ ap (tail_by usable) (sym b.same_kept)

module _ (g usable : ℕ) where
  has_own_effect : (x : Audited) (op : RecordedOperation)
      → Does (effect_of x.sections.tail (own_event (event_of g x op))) x.sections (handed_back g x op).sections
  has_own_effect x (record_persistent kind size a) = recorded_effect g x.sections x.ledger kind size a
  has_own_effect x (allocate_temporary size a) = has_effect g x.sections (own_operation (allocate_temporary size a))
  has_own_effect x reset_temporaries = has_effect g x.sections (own_operation reset_temporaries)
  has_own_effect x (set_head_length length) = has_effect g x.sections (own_operation (set_head_length length))

  -- They agree after every operation.
  runs : (ops : List RecordedOperation) (x : Audited) (h : Held) (keeps : List Keep) → Agrees usable x h keeps
      → Agrees usable (audited_after g x ops) (held_after usable h (map own_event (recorded_events g x ops))) (keeps_after usable keeps (recorded_events g x ops))
  unfolding audited_after recorded_events keeps_after held_after
  runs [] x h keeps b = b
  runs (op ∷ ops) x h keeps b =
      runs ops (handed_back g x op) _ _
      record {
        books = books_step (own_event (event_of g x op)) b.books (has_own_effect x op);
        same_kept = same_with usable keeps h (event_of g x op) b.same_kept;
        tells = tells_on g usable x keeps b.tells (tail_by_lem b) op;
      }

-- A ledger of zeros tells that nothing is kept.
tells_nothing : Tells empty_ledger []
unfolding total_used sum used kept_as
tells_nothing = record { long = refl; each = λ kind h. get_or-replicate kind_count kind nothing_recorded nothing_recorded h; total = refl }

-- Every history is told by its ledger, from an accepted opening on.
module _ (g start len : ℕ) (ops : List RecordedOperation) (a : (open_of g start len).answer.number ≡ done) where
  agrees : Agrees (opened g start len).usable (audited g start len ops) (held_by g start len ops) (keeps_of g start len ops)
  agrees =
      runs g (opened g start len).usable ops (opened_audit g start len) nothing_held []
      record { books = opening_begins g start len a; same_kept = refl; tells = tells_nothing }

  -- The law.
  pub sound_ledger : SoundLedger (opened g start len).usable (audited g start len ops) (keeps_of g start len ops)
  sound_ledger =
      record {
        each_kind = agrees.tells.each;
        total_is = agrees.tells.total;
        used_total = omega (arith, agrees.tells.total, ap used agrees.same_kept, agrees.books.keeping.sum, tail_by_lem agrees);
        tail_is = tail_by_lem agrees;
        usable_is = agrees.books.same_usable;
      }

  -- Document 01's law of histories holds where keeps go through a ledger, too.
  pub sound_recorded : Sound (opened g start len).usable (audited g start len ops).sections (held_by g start len ops)
  sound_recorded = books_sound agrees.books
