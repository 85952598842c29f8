-- Laws of the definitions of specs/Effects.antt.
use Rattle.std.specs.Prelude.{ℕ, ◌+◌, ◌≤◌, List, [], ◌∷◌, ◌≡◌, refl}
use Rattle.std.proofs.Common.{arith}
use Rattle.bounded.proofs.Entries.{each_more, two_more}
use Rattle.arena_sections.specs.History.{Span, Kept, Held, Effect, Apart, Inside, KeptApart, KeptInside, no_span, no_kept, used, temp_by, applied, nothing_held}
use Rattle.arena_sections.specs.History.Effect.{nothing, keeps, borrows, resets, sets_head}
use Rattle.arena_sections.specs.Sections.{greatest_length, fresh, with_tail, with_temp, with_head}
use Rattle.arena_sections.specs.declared.Sections.{Sections}
use Rattle.arena_sections.specs.Effects.{Books, Borrowing, Does, Keeping}

-- ---- what is kept, and what is borrowed

-- A span is kept below the others.
keep_more : {usable tail : ℕ} {ks : List Kept} → Keeping usable tail ks → (k : Kept) → k.span.start + (k.span.size + k.gap) ≡ tail → Keeping usable k.span.start (k ∷ ks)
unfolding used
keep_more {usable} {tail} {ks} b k e =
    record {
      tail_is = refl;
      sum = omega (arith, b.sum);
      inside =
          each_more (KeptInside k.span.start usable) k ks no_kept (λ byte x. (x.from, omega (arith, x.below, b.sum)))
          (λ i m byte x. let y = b.inside i m byte x in (omega (arith, y.0), y.1));
      apart = two_more KeptApart k ks no_kept (λ i m byte x y. omega (arith, x.below, (b.inside i m byte y).0)) b.apart;
    }

-- A span is borrowed above the others.
borrow_more : {head temp : ℕ} {xs : List Span} → head ≤ temp → Borrowing head temp xs → (x : Span) → temp ≤ x.start → Borrowing head (x.start + x.size) (x ∷ xs)
borrow_more {head} {temp} {xs} o b x l =
    record {
      temp_is = omega arith;
      inside =
          each_more (Inside head (x.start + x.size)) x xs no_span (λ byte y. (omega (arith, y.from), y.below))
          (λ i m byte y. let z = b.inside i m byte y in (z.0, omega (arith, z.1)));
      apart = two_more Apart x xs no_span (λ i m byte y z. omega (arith, y.from, (b.inside i m byte z).1)) b.apart;
    }

-- None is out.
none_borrowed : (head : ℕ) → Borrowing head head []
none_borrowed head = record { temp_is = refl; inside = λ i m. absurd (omega arith); apart = λ i j l m. absurd (omega arith) }

-- The head grows where no borrowed span has a byte.
head_grows : {head temp : ℕ} {xs : List Span} → Borrowing head temp xs → temp ≡ head → (length : ℕ) → head ≤ length → Borrowing length length xs
head_grows {head} {temp} {xs} b e length l =
    record {
      temp_is = temp-end xs b.temp_is;
      inside = λ i n byte x. let y = b.inside i n byte x in absurd (omega (arith, y.0, y.1));
      apart = b.apart;
    }
  where
    temp-end : (ys : List Span) → temp ≡ temp_by head ys → length ≡ temp_by length ys
    temp-end [] q = refl
    temp-end (y ∷ ys) q = omega arith

-- ---- one law for each effect

module _ {usable : ℕ} {s : Sections} {h : Held} (b : Books usable s h) where
  -- A span is kept.
  pub keeps_books : (k : Kept) → s.temp ≤ k.span.start → k.span.start + (k.span.size + k.gap) ≡ s.tail
      → Books usable (with_tail s k.span.start) (applied (keeps k) h)
  keeps_books k l e =
      record {
        ordered = record { head_temp = b.ordered.head_temp; temp_tail = l; tail_usable = omega (arith, b.ordered.tail_usable); in_limit = b.ordered.in_limit };
        same_usable = b.same_usable;
        head_is = b.head_is;
        keeping = keep_more b.keeping k e;
        borrowing = b.borrowing;
      }

  -- A span is borrowed.
  pub borrows_books : (x : Span) → s.temp ≤ x.start → x.start + x.size ≤ s.tail → Books usable (with_temp s (x.start + x.size)) (applied (borrows x) h)
  borrows_books x l e =
      record {
        ordered = record { head_temp = omega (arith, b.ordered.head_temp); temp_tail = e; tail_usable = b.ordered.tail_usable; in_limit = b.ordered.in_limit };
        same_usable = b.same_usable;
        head_is = b.head_is;
        keeping = b.keeping;
        borrowing = borrow_more b.ordered.head_temp b.borrowing x l;
      }

  -- Every borrowed span is given back.
  pub resets_books : Books usable (with_temp s s.head) (applied resets h)
  resets_books =
      record {
        ordered = record { head_temp = omega arith; temp_tail = omega (arith, b.ordered); tail_usable = b.ordered.tail_usable; in_limit = b.ordered.in_limit };
        same_usable = b.same_usable;
        head_is = b.head_is;
        keeping = b.keeping;
        borrowing = none_borrowed s.head;
      }

  -- The head is set.
  pub head_books : (length : ℕ) → s.temp ≡ s.head → s.head ≤ length → length ≤ s.tail → Books usable (with_head s length) (applied (sets_head length) h)
  head_books length e l m =
      record {
        ordered = record { head_temp = omega arith; temp_tail = m; tail_usable = b.ordered.tail_usable; in_limit = b.ordered.in_limit };
        same_usable = b.same_usable;
        head_is = refl;
        keeping = b.keeping;
        borrowing = head_grows b.borrowing e length l;
      }

-- Whatever the effect, the books go on agreeing.
pub goes_on : {usable : ℕ} {s t : Sections} {h : Held} (e : Effect) → Books usable s h → Does e s t → Books usable t (applied e h)
goes_on nothing b d = rw d b
goes_on (keeps k) b d = rw d.0 (keeps_books b k d.1 d.2)
goes_on (borrows x) b d = rw d.0 (borrows_books b x d.1 d.2)
goes_on resets b d = rw d (resets_books b)
goes_on (sets_head length) b d = rw d.0 (head_books b length d.1 d.2 d.3)

-- At first, of a fresh state, they agree.
pub begins : (usable : ℕ) → usable ≤ greatest_length → Books usable (fresh usable) nothing_held
unfolding used
begins usable l =
    record {
      ordered = record { head_temp = omega arith; temp_tail = omega arith; tail_usable = omega arith; in_limit = l };
      same_usable = refl;
      head_is = refl;
      keeping = record { tail_is = refl; sum = omega arith; inside = λ i m. absurd (omega arith); apart = λ i j k m. absurd (omega arith) };
      borrowing = none_borrowed 0;
    }
