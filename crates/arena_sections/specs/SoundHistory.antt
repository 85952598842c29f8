-- Law: document 01's promise over whole histories, one theorem: "From a fresh state, after any sequence, usable − tail is the sum, over accepted keeps in
-- the history, of size and gap, the gap being (tail before − size) mod alignment; no two kept spans share a byte, and none meets the head or a borrowed
-- span not yet reset." It holds on any grid, after any accepted opening and any list of operations with any arguments, refused ones among them.
use Rattle.std.specs.Prelude.{ℕ, ◌+◌, ◌≡◌, take}
use mathlib.Core.List.{List}
use Rattle.bounded.specs.Entries.{Each, EachTwo}
use Rattle.arena_sections.specs.History.{Operation, Span, Kept, Held, Apart, Inside, KeptApart, KeptInside, no_span, no_kept, temp_by, used, tail_by, opened, state_after, held}
use Rattle.arena_sections.specs.Ordered.{Ordered}
use Rattle.arena_sections.specs.declared.Sections.{Sections}

-- The span of the head section.
abbrev pub head_span : ℕ → Span
head_span head = record { start = 0; size = head }

-- What is so of a state of an arena with a usable length, and of what its history holds.
pub record Sound (usable : ℕ) (s : Sections) (h : Held) : Type 0 where
  -- usable − tail is the sum over the accepted keeps of size and gap
  pub sum : usable ≡ s.tail + used h.kept
  -- no two kept spans share a byte
  pub kept_apart : EachTwo KeptApart h.kept no_kept
  -- none meets the head
  pub kept_off_head : Each (λ (k : Kept). Apart k.span (head_span s.head)) h.kept no_kept
  -- none meets a borrowed span that has not been reset
  pub kept_off_borrowed : Each (λ (k : Kept). Each (Apart k.span) h.borrowed no_span) h.kept no_kept
  -- no two borrowed spans that are out share a byte
  pub borrowed_apart : EachTwo Apart h.borrowed no_span
  -- none meets the head
  pub borrowed_off_head : Each (λ (x : Span). Apart x (head_span s.head)) h.borrowed no_span
  -- no span leaves the usable part
  pub kept_inside : Each (KeptInside 0 usable) h.kept no_kept
  pub borrowed_inside : Each (Inside 0 usable) h.borrowed no_span
  -- the state is what the history says: the head, where the temporaries end, where persistent memory starts
  pub head_is : s.head ≡ h.head
  pub temp_is : s.temp ≡ temp_by h.head h.borrowed
  pub tail_is : s.tail ≡ tail_by usable h.kept

-- The law: after an opening and operations, the state is sound; and after each of the operations, the first k of them, it is valid with the opening's usable.
pub record SoundHistory (g start len : ℕ) (ops : List Operation) : Type 0 where
  pub sound : Sound (opened g start len).usable (state_after g start len ops) (held g start len ops)
  pub each_valid : (k : ℕ) → Ordered (state_after g start len (take k ops))
  pub each_usable : (k : ℕ) → (state_after g start len (take k ops)).usable ≡ (opened g start len).usable
