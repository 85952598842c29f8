-- Histories of the sections: an accepted opening, then any operations with any arguments, refused ones among them, each on the state that the one
-- before handed back. What a history holds, the kept spans with their gaps, the borrowed spans not yet reset and the head, is worked out here from the
-- operations and their answers, and from no state. Document 01 calls a persistent allocation a keep and a temporary one a borrow.
use Rattle.std.specs.Prelude.{ℕ, ◌+◌, ◌<◌, ◌≤◌, max, true, false, List, [], ◌∷◌, eqb}
use Rattle.answer.specs.Answer.{done}
use Rattle.answer.specs.declared.Answer.{Answer}
use Rattle.arena_sections.specs.Sections.{gap_below, open_of, persistent_of, temp_of, reset_of, head_of}
use Rattle.arena_sections.specs.declared.Outcome.{Outcome}
use Rattle.arena_sections.specs.declared.Sections.{Sections}

-- ---- operations, and what comes of them

-- An operation with its arguments: an allocation's size and alignment, the head's length.
pub data Operation : Type 0 where
  allocate_persistent : ℕ → ℕ → Operation
  allocate_temp : ℕ → ℕ → Operation
  reset_temp : Operation
  set_head : ℕ → Operation

-- What the operation answers and hands back.
abbrev pub outcome_of : ℕ → Sections → Operation → Outcome
outcome_of g s (allocate_persistent size alignment) = persistent_of g s size alignment
outcome_of g s (allocate_temp size alignment) = temp_of g s size alignment
outcome_of g s reset_temp = reset_of s
outcome_of g s (set_head length) = head_of s length

-- The state after all operations of a list.
unfoldable pub after : ℕ → Sections → List Operation → Sections
after g s [] = s
after g s (op ∷ ops) = after g (outcome_of g s op).sections ops

-- An operation and its answer: what an auditor sees.
pub record Event : Type 0 where
  pub operation : Operation
  pub answer : Answer

-- The events of a list of operations.
unfoldable pub events : ℕ → Sections → List Operation → List Event
events g s [] = []
events g s (op ∷ ops) = record { operation = op; answer = (outcome_of g s op).answer } ∷ events g (outcome_of g s op).sections ops

-- ---- spans

-- Bytes from a start on.
pub record Span : Type 0 where
  pub start : ℕ
  pub size : ℕ

-- A kept span: an accepted keep's, with the gap above it.
pub record Kept : Type 0 where
  pub span : Span
  pub gap : ℕ

-- No span: what stands past the end of a list of them.
abbrev pub no_span : Span
no_span = record { start = 0; size = 0 }

-- No kept span.
abbrev pub no_kept : Kept
no_kept = record { span = no_span; gap = 0 }

-- The span has the byte.
pub record Has (x : Span) (byte : ℕ) : Type 0 where
  pub from : x.start ≤ byte
  pub below : byte < x.start + x.size

-- Two spans share no byte.
abbrev pub Apart : Span → Span → Type 0
Apart x y = (byte : ℕ) → Has x byte → Has y byte → ⊥

-- Two kept spans share no byte.
abbrev pub KeptApart : Kept → Kept → Type 0
KeptApart k l = Apart k.span l.span

-- Every byte of the span lies from one place to another.
abbrev pub Inside : ℕ → ℕ → Span → Type 0
Inside low high x = (byte : ℕ) → Has x byte → (low ≤ byte) × (byte < high)

-- Every byte of the kept span lies from one place to another.
abbrev pub KeptInside : ℕ → ℕ → Kept → Type 0
KeptInside low high k = Inside low high k.span

-- The bytes that keeps took: size and gap of each.
unfoldable pub used : List Kept → ℕ
used [] = 0
used (k ∷ ks) = (k.span.size + k.gap) + used ks

-- ---- what a history holds

-- The kept spans and the borrowed spans not yet reset, the newest first, and the head's length.
pub record Held : Type 0 where
  pub kept : List Kept
  pub borrowed : List Span
  pub head : ℕ

-- At first it holds nothing.
abbrev pub nothing_held : Held
nothing_held = record { kept = []; borrowed = []; head = 0 }

-- The tail that the keeps leave: where the newest one starts, or the usable length.
abbrev pub tail_by : ℕ → List Kept → ℕ
tail_by usable [] = usable
tail_by usable (k ∷ ks) = k.span.start

-- Where the borrowed spans end: where the newest one does. Where that is below the head's end, it has no byte, and they end with the head.
abbrev pub temp_by : ℕ → List Span → ℕ
temp_by head [] = head
temp_by head (x ∷ xs) = max head (x.start + x.size)

-- What an operation does to what is held. Whatever is added to the sections does some of these, or a new one.
pub data Effect : Type 0 where
  nothing : Effect
  keeps : Kept → Effect
  borrows : Span → Effect
  resets : Effect
  sets_head : ℕ → Effect

-- The effect of an accepted operation, by the tail before it and the start that it answered: "the gap being (tail before − size) mod alignment".
abbrev pub effect_by : ℕ → Operation → ℕ → Effect
effect_by tail (allocate_persistent size alignment) start =
    keeps (record { span = record { start = start; size = size }; gap = gap_below tail size alignment })
effect_by tail (allocate_temp size alignment) start = borrows (record { start = start; size = size })
effect_by tail reset_temp start = resets
effect_by tail (set_head length) start = sets_head length

-- The effect of an event: a refusal has none.
abbrev pub effect_of : ℕ → Event → Effect
effect_of tail e = elim (eqb e.answer.number done) [ true ↦ effect_by tail e.operation e.answer.a | false ↦ nothing ]

-- What is held after an effect.
abbrev pub applied : Effect → Held → Held
applied nothing h = h
applied (keeps k) h = record { kept = k ∷ h.kept; borrowed = h.borrowed; head = h.head }
applied (borrows b) h = record { kept = h.kept; borrowed = b ∷ h.borrowed; head = h.head }
applied resets h = record { kept = h.kept; borrowed = []; head = h.head }
applied (sets_head length) h = record { kept = h.kept; borrowed = h.borrowed; head = length }

-- What is held after the events, in an arena of a usable length.
unfoldable pub held_after : ℕ → Held → List Event → Held
held_after usable h [] = h
held_after usable h (e ∷ es) = held_after usable (applied (effect_of (tail_by usable h.kept) e) h) es

-- ---- from an opening on

-- The state that an opening hands back.
abbrev pub opened : ℕ → ℕ → ℕ → Sections
opened g start length = (open_of g start length).sections

-- The state after an opening and operations.
abbrev pub state_after : ℕ → ℕ → ℕ → List Operation → Sections
state_after g start length ops = after g (opened g start length) ops

-- What is held after them.
abbrev pub held : ℕ → ℕ → ℕ → List Operation → Held
held g start length ops = held_after (opened g start length).usable nothing_held (events g (opened g start length) ops)
