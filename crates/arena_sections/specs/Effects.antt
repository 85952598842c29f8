-- What each effect leaves of the book-keeping: the state and what is held agree, and go on agreeing. One law for each effect, whatever operation had
-- it, so that an operation added later shows only which effect it has (`Does`), and an effect added later its own law.
use Rattle.std.specs.Prelude.{ℕ, ◌+◌, ◌≤◌, List, ◌≡◌}
use Rattle.bounded.specs.Entries.{Each, EachTwo}
use Rattle.arena_sections.specs.History.{Span, Kept, Held, Effect, Apart, Inside, KeptApart, KeptInside, no_span, no_kept, used, tail_by, temp_by}
use Rattle.arena_sections.specs.History.Effect.{nothing, keeps, borrows, resets, sets_head}
use Rattle.arena_sections.specs.Ordered.{Ordered}
use Rattle.arena_sections.specs.Sections.{with_tail, with_temp, with_head}
use Rattle.arena_sections.specs.declared.Sections.{Sections}

-- Persistent memory, from the tail to the usable length, is just what the kept spans and their gaps take.
pub record Keeping (usable tail : ℕ) (kept : List Kept) : Type 0 where
  pub tail_is : tail ≡ tail_by usable kept
  pub sum : usable ≡ tail + used kept
  pub inside : Each (KeptInside tail usable) kept no_kept
  pub apart : EachTwo KeptApart kept no_kept

-- The borrowed spans that are out lie between the head and the end of the temporaries.
pub record Borrowing (head temp : ℕ) (borrowed : List Span) : Type 0 where
  pub temp_is : temp ≡ temp_by head borrowed
  pub inside : Each (Inside head temp) borrowed no_span
  pub apart : EachTwo Apart borrowed no_span

-- The books agree: a state of an arena of a usable length, and what a history holds.
pub record Books (usable : ℕ) (s : Sections) (h : Held) : Type 0 where
  pub ordered : Ordered s
  pub same_usable : s.usable ≡ usable
  pub head_is : s.head ≡ h.head
  pub keeping : Keeping usable s.tail h.kept
  pub borrowing : Borrowing s.head s.temp h.borrowed

-- What an effect does to the state, and what it must meet.
abbrev pub Does : Effect → Sections → Sections → Type 0
Does nothing s t = t ≡ s
Does (keeps k) s t = (t ≡ with_tail s k.span.start) × (s.temp ≤ k.span.start) × (k.span.start + (k.span.size + k.gap) ≡ s.tail)
Does (borrows b) s t = (t ≡ with_temp s (b.start + b.size)) × (s.temp ≤ b.start) × (b.start + b.size ≤ s.tail)
Does resets s t = t ≡ with_temp s s.head
Does (sets_head length) s t = (t ≡ with_head s length) × (s.temp ≡ s.head) × (s.head ≤ length) × (length ≤ s.tail)
