-- Laws of the definitions of specs/Cases.antt.
use Rattle.std.specs.Prelude.{ℕ, ◌+◌, ◌-◌, ◌<◌, ◌≤◌, Bool, not, ◌++◌, ◌≡◌, length}
use Rattle.std.proofs.Math.Bool.{true, false}
use Rattle.std.proofs.Math.Path.{refl}
use Rattle.std.proofs.Common.{sym, ◌∙◌, ap, arith}
use borrow.Author.Tests.{le-leb, lt-leb, leb-false, ne_eqb, not-false}
use Rattle.alignment.specs.Alignments.{allowed}
use Rattle.alignment.proofs.Alignments.{allowed_says}
use Rattle.alignment.proofs.Rounding.{down_rest}
use Rattle.answer.specs.Answer.{done, sections_not_valid, bad_alignment, bad_allocation_kind, too_many}
use Rattle.arena_sections.specs.Cases.{number_of}
use Rattle.arena_sections.proofs.Cases.{allocation_not_allowed, allocation_passes, allocation_passed}
use Rattle.arena_sections.proofs.Ordered.{valid_says}
use Rattle.arena_sections.proofs.Room.{room_says}
use Rattle.arena_sections.specs.Sections.{valid, refused_outcome, done_outcome, allocation_of, persistent_start, gap_below, persistent_room, persistent_done, persistent_of}
use Rattle.arena_sections.specs.declared.Outcome.{Outcome}
use Rattle.arena_sections.specs.declared.Sections.{Sections}
use Rattle.bounded.proofs.Boolean.{contrary}
use Rattle.bounded.specs.Causes.{Gives, first_cause}
use Rattle.bounded.proofs.Causes.{given, next, follows, passed}
use Rattle.recording_rule.proofs.Balance.{balanced_says, used_within}
use Rattle.recording_rule.specs.Ledger.{kind_count, greatest_count, of_kind, balanced, with_keep_of}
use Rattle.recording_rule.specs.Recording.{kind_causes, recording_causes, recorded_of, ledger_after, recording_of}
use Rattle.recording_rule.specs.declared.Ledger.{Ledger}
use Rattle.recording_rule.specs.declared.RecordedAllocation.{RecordedAllocation}
use Rattle.recording_rule.specs.declared.Recording.{Recording}
use Rattle.recording_rule.specs.Cases.{Recordable, Recorded}

module _ (g : ℕ) (s : Sections) (size a : ℕ) where
  data Own : Type 0 where
    not_valid : valid s ≡ false → persistent_of g s size a ≡ refused_outcome sections_not_valid s → Own
    not_allowed : valid s ≡ true → allowed g a ≡ false → persistent_of g s size a ≡ refused_outcome bad_alignment s → Own
    decided : valid s ≡ true → allowed g a ≡ true → persistent_of g s size a ≡ first_cause (persistent_room s size a) (persistent_done s size a) → Own

  own : Own
  unfolding persistent_of
  own = go (valid s) (allowed g a) refl refl
    where
      go : (v w : Bool) → valid s ≡ v → allowed g a ≡ w → Own
      go false w p q = not_valid p (rw (p, first_cause))
      go true false p q = not_allowed p q (rw (p, q, first_cause))
      go true true p q = decided p q (rw (p, q, first_cause))

-- ---- by the tests, one after the other

module _ (g : ℕ) (s : Sections) (l : Ledger) (kind size a : ℕ) where
  abbrev taken : ℕ
  taken = s.usable - s.tail

  -- A list gives the outcome: the whole one, and what is left of it past the sections' state and the ledger.
  gives : {o : Outcome} → Gives (recording_causes g s l kind size a) (persistent_done s size a) o → o ≡ recorded_of g s l kind size a
  unfolding recorded_of
  gives x = x.is

  -- The sections' state is not valid.
  pub by_state : valid s ≡ false → refused_outcome sections_not_valid s ≡ recorded_of g s l kind size a
  by_state v = gives (given (ap not v))

  module _ (v : valid s ≡ true) where
    -- The ledger is not balanced.
    pub by_ledger : balanced l taken ≡ false → refused_outcome sections_not_valid s ≡ recorded_of g s l kind size a
    by_ledger b = gives (next (ap not v) (given (ap not b)))

    module _ (b : balanced l taken ≡ true) where
      past : {o : Outcome} → Gives (kind_causes g s l kind a ++ persistent_room s size a) (persistent_done s size a) o → o ≡ recorded_of g s l kind size a
      past x = gives (next (ap not v) (next (ap not b) x))

      -- The alignment is not allowed.
      pub by_alignment : allowed g a ≡ false → refused_outcome bad_alignment s ≡ recorded_of g s l kind size a
      by_alignment w = past (given (ap not w))

      -- The sections' own checks refuse: past their state it is the alignment.
      pub by_checks : {n : ℕ} → refused_outcome n s ≡ allocation_of g s a → (n ≡ 0 → ⊥) → refused_outcome n s ≡ recorded_of g s l kind size a
      by_checks {n} e h = go (allowed g a) refl
        where
          go : (w : Bool) → allowed g a ≡ w → refused_outcome n s ≡ recorded_of g s l kind size a
          go true w = absurd (h (ap number_of e ∙ sym (allocation_passes g s a v w)))
          go false w = ap (λ (m : ℕ). refused_outcome m s) (ap number_of e ∙ sym (allocation_not_allowed g s a v w)) ∙ by_alignment w

      module _ (w : allowed g a ≡ true) where
        -- No kind has the code.
        pub by_kind : kind_count ≤ kind → refused_outcome bad_allocation_kind s ≡ recorded_of g s l kind size a
        by_kind h = past (next (ap not w) (given (le-leb _ _ h)))

        module _ (h : kind < kind_count) where
          -- The kind has all that it takes.
          pub by_count : greatest_count ≤ (of_kind l kind).count → refused_outcome too_many s ≡ recorded_of g s l kind size a
          by_count m = past (next (ap not w) (next (lt-leb _ _ h) (given (le-leb _ _ m))))

          -- The sections' own outcome stands.
          pub by_sections : (of_kind l kind).count < greatest_count → persistent_of g s size a ≡ recorded_of g s l kind size a
          by_sections m = go (own g s size a)
            where
              go : Own g s size a → persistent_of g s size a ≡ recorded_of g s l kind size a
              go (not_valid x p) = contrary v x
              go (not_allowed x y p) = contrary w y
              go (decided x y p) = p ∙ past (next (ap not w) (next (lt-leb _ _ h) (next (lt-leb _ _ m) record { is = refl })))

-- Where the sections' own checks pass, the alignment is allowed.
pub checks_passed : (g : ℕ) (s : Sections) (a : ℕ) → done_outcome 0 s ≡ allocation_of g s a → allowed g a ≡ true
checks_passed g s a e = not-false (allowed g a) (allocation_passed g s a (sym (ap number_of e))).1.0

-- Past all that the ledger refuses, the sections' own outcome stands, as the code comes to each test.
pub own_stands : (g : ℕ) (s : Sections) (l : Ledger) (kind size a : ℕ) {v b : Bool} {r : RecordedAllocation} {o : Outcome}
    → v ≡ valid s → v ≡ true → b ≡ balanced l (s.usable - s.tail) → b ≡ true → done_outcome 0 s ≡ allocation_of g s a
    → kind < kind_count → r ≡ of_kind l kind → r.count < greatest_count → o ≡ persistent_of g s size a → o ≡ recorded_of g s l kind size a
own_stands g s l kind size a v vt b bt p h r m e =
    let count = ap (λ (x : RecordedAllocation). x.count) r in
    e ∙ by_sections g s l kind size a (sym v ∙ vt) (sym b ∙ bt) (checks_passed g s a p) h (omega (arith, count))

-- ---- the ledger after it

module _ (g : ℕ) (s : Sections) (l : Ledger) (kind size a : ℕ) where
  -- The ledger records an accepted keep,
  pub recorded_ledger : number_of (recorded_of g s l kind size a) ≡ done → ledger_after g s l kind size a ≡ with_keep_of l kind size (gap_below s.tail size a)
  unfolding ledger_after
  recorded_ledger e = rw (ledger_after, e)

  -- and no refused one.
  pub refused_ledger : (number_of (recorded_of g s l kind size a) ≡ done → ⊥) → ledger_after g s l kind size a ≡ l
  unfolding ledger_after
  refused_ledger n = rw (ledger_after, ne_eqb (number_of (recorded_of g s l kind size a)) done n)

-- It is so where the answer is done.
pub recorded_says : (g : ℕ) (s : Sections) (l : Ledger) (kind size a : ℕ) → number_of (recorded_of g s l kind size a) ≡ 0 → Recorded g s l kind size a
unfolding recorded_of
recorded_says g s l kind size a e =
    let n = (passed number_of (recording_causes g s l kind size a) (persistent_done s size a)
    (omega arith, (omega arith, (omega arith, (omega arith, (omega arith, (omega arith, tt)))))) e).0 in
    let has = room_says s size a n.1.1.1.1.1.0 in
    record {
      valid_state = valid_says s (not-false (valid s) n.0);
      valid_ledger = balanced_says l (s.usable - s.tail) (not-false _ n.1.0);
      valid_alignment = allowed_says g a (not-false (allowed g a) n.1.1.0);
      named = leb-false _ _ n.1.1.1.0;
      countable = leb-false _ _ n.1.1.1.1.0;
      fits = has.0;
      room = has.1;
      is = follows (recording_causes g s l kind size a) (persistent_done s size a) n;
    }

-- ---- what the code hands back, from the outcome that it came to

module _ (g : ℕ) (s : Sections) (l : Ledger) (kind size a : ℕ) (o : Outcome) (e : o ≡ recorded_of g s l kind size a) where
  -- Refused: the ledger as it was.
  pub hands_back : (number_of o ≡ 0 → ⊥) → ◌≡◌ {A = Recording} (record { answer = o.answer; sections = o.sections; ledger = l }) (recording_of g s l kind size a)
  hands_back n =
      let same = sym (refused_ledger g s l kind size a (λ z. n (ap number_of e ∙ z))) in
      λ i. record { answer = (e i).answer; sections = (e i).sections; ledger = same i }

  module _ (z : number_of o ≡ 0) where
    says : Recorded g s l kind size a
    says = recorded_says g s l kind size a (sym (ap number_of e) ∙ z)

    tail_is : o.sections.tail ≡ persistent_start s size a
    tail_is = ap (λ (x : Outcome). x.sections.tail) (e ∙ says.is)

    -- The tail went down by the size and the gap,
    taken_is : o.sections.tail + (size + gap_below s.tail size a) ≡ s.tail
    taken_is = omega (arith, tail_is, says.fits, down_rest a (s.tail - size))

    -- so that nothing is below 0,
    pub goes_down : o.sections.tail ≤ s.tail
    goes_down = omega (arith, taken_is)

    -- no sum is too large: what the kinds used before and what is taken now lie within the usable length,
    pub recordable : length l.kinds ≡ kind_count → Recordable l kind size (s.tail - o.sections.tail)
    recordable long =
        let used = used_within l kind (rw long says.named) in
        let within = says.valid_ledger.within kind says.named in
        record {
          named = says.named;
          has_size = omega (arith, taken_is);
          requested_fits = omega (arith, taken_is, used, within, says.valid_ledger.total, says.valid_state);
          used_fits = omega (arith, taken_is, used, says.valid_ledger.total, says.valid_state);
          countable = says.countable;
        }

    -- and the ledger with the keep is what the definition hands back.
    pub hands_on : (m : Ledger) → m ≡ with_keep_of l kind size (s.tail - o.sections.tail - size)
        → ◌≡◌ {A = Recording} (record { answer = o.answer; sections = o.sections; ledger = m }) (recording_of g s l kind size a)
    hands_on m q =
        let gap : s.tail - o.sections.tail - size ≡ gap_below s.tail size a = omega (arith, taken_is) in
        let kept = q ∙ ap (with_keep_of l kind size) gap ∙ sym (recorded_ledger g s l kind size a (sym (ap number_of e) ∙ z)) in
        λ i. record { answer = (e i).answer; sections = (e i).sections; ledger = kept i }
