-- Document 01, "Three sections in one arena": what opening, the two allocations, the reset and setting the head answer, and the state that each hands
-- back. The head grows from the start of the arena, persistent memory from its end down, temporaries stand above the head:
--     0 .. head        the head section
--     head .. temp     temporaries
--     tail .. usable   persistent memory
-- Any state may be handed in, one that is not valid too. Every refusal hands the same state back.
use Rattle.std.specs.Prelude.{ℕ, ◌+◌, ◌-◌, ◌%◌, Bool, not, ◌&&◌, ◌||◌, List, [], ◌∷◌, ◌++◌, ltb, leb, eqb}
use Rattle.alignment.specs.Alignments.{loss, allowed}
use Rattle.alignment.specs.Rounding.{rounded_up, rounded_down}
use Rattle.answer.specs.Answer as A
use Rattle.bounded.specs.Causes.{Cause, ◌⇒◌, first_cause}
use Rattle.arena_sections.specs.declared.Outcome.{Outcome}
use Rattle.arena_sections.specs.declared.Sections.{Sections}

-- ---- the limits

-- The grid that the entry points pass: the alignment of the usable part, and the greatest of an allocation. All else is over any grid.
abbrev pub base_alignment : ℕ
base_alignment = 16

-- "the usable length is above 16,777,216".
abbrev pub greatest_length : ℕ
greatest_length = 16777216

-- ---- states

-- "A fresh state has head = temp = 0 and tail = usable."
abbrev pub fresh : ℕ → Sections
fresh usable = record { head = 0; temp = 0; tail = usable; usable = usable }

-- "a state of zeros".
abbrev pub zeros : Sections
zeros = record { head = 0; temp = 0; tail = 0; usable = 0 }

-- "A state is valid when head ≤ temp ≤ tail ≤ usable ≤ 16,777,216."
unfoldable pub valid : Sections → Bool
valid s = (leb s.head s.temp && leb s.temp s.tail) && (leb s.tail s.usable && leb s.usable greatest_length)

-- The state with another tail.
abbrev pub with_tail : Sections → ℕ → Sections
with_tail s tail = record { head = s.head; temp = s.temp; tail = tail; usable = s.usable }

-- The state with another end of the temporaries.
abbrev pub with_temp : Sections → ℕ → Sections
with_temp s temp = record { head = s.head; temp = temp; tail = s.tail; usable = s.usable }

-- The state with another head, and no temporaries above it.
abbrev pub with_head : Sections → ℕ → Sections
with_head s head = record { head = head; temp = head; tail = s.tail; usable = s.usable }

-- ---- outcomes

-- Refused by a number, with the state that is handed back.
abbrev pub refused_outcome : ℕ → Sections → Outcome
refused_outcome number s = record { answer = A.refused number; sections = s }

-- Done, with the start of what was allocated and the next state.
abbrev pub done_outcome : ℕ → Sections → Outcome
done_outcome start s = record { answer = A.done_at start; sections = s }

-- ---- opening

-- "the usable length is the rest".
abbrev pub usable_length : ℕ → ℕ → ℕ → ℕ
usable_length g start length = length - loss g start

-- "Number 13 if L is below the loss or the usable length is above 16,777,216".
unfoldable pub not_usable : ℕ → ℕ → ℕ → Bool
not_usable g start length = ltb length (loss g start) || ltb greatest_length (usable_length g start length)

-- 13: "a refused opening hands back a state of zeros".
abbrev pub open_causes : ℕ → ℕ → ℕ → List (Cause Outcome)
open_causes g start length = (not_usable g start length ⇒ refused_outcome A.sections_not_valid zeros) ∷ []

-- An arena at a start with a length.
unfoldable pub open_of : ℕ → ℕ → ℕ → Outcome
open_of g start length = first_cause (open_causes g start length) (done_outcome 0 (fresh (usable_length g start length)))

-- ---- operations on the state

-- 13.
abbrev pub state_causes : Sections → List (Cause Outcome)
state_causes s = (not (valid s) ⇒ refused_outcome A.sections_not_valid s) ∷ []

-- 13, 14: both allocations begin with them.
abbrev pub allocation_causes : ℕ → Sections → ℕ → List (Cause Outcome)
allocation_causes g s alignment = state_causes s ++ ((not (allowed g alignment) ⇒ refused_outcome A.bad_alignment s) ∷ [])

-- The outcome of the checks 13 and 14 alone: a refusal, or done with the state as it was.
unfoldable pub allocation_of : ℕ → Sections → ℕ → Outcome
allocation_of g s alignment = first_cause (allocation_causes g s alignment) (done_outcome 0 s)

-- "Keep (persistent): start is tail − size rounded down to the alignment".
abbrev pub persistent_start : Sections → ℕ → ℕ → ℕ
persistent_start s size alignment = rounded_down alignment (s.tail - size)

-- "the gap being (tail before − size) mod alignment".
abbrev pub gap_below : ℕ → ℕ → ℕ → ℕ
gap_below tail size alignment = (tail - size) % alignment

-- "15 exactly if size > tail or start < temp."
unfoldable pub persistent_full : Sections → ℕ → ℕ → Bool
persistent_full s size alignment = ltb s.tail size || ltb (persistent_start s size alignment) s.temp

-- 15.
abbrev pub persistent_room : Sections → ℕ → ℕ → List (Cause Outcome)
persistent_room s size alignment = (persistent_full s size alignment ⇒ refused_outcome A.no_room s) ∷ []

-- "it becomes the tail".
abbrev pub persistent_done : Sections → ℕ → ℕ → Outcome
persistent_done s size alignment = done_outcome (persistent_start s size alignment) (with_tail s (persistent_start s size alignment))

-- A persistent allocation: 13, 14, 15.
unfoldable pub persistent_of : ℕ → Sections → ℕ → ℕ → Outcome
persistent_of g s size alignment = first_cause (allocation_causes g s alignment ++ persistent_room s size alignment) (persistent_done s size alignment)

-- "Borrow (temporary): start is temp rounded up".
abbrev pub temp_start : Sections → ℕ → ℕ
temp_start s alignment = rounded_up alignment s.temp

-- "15 exactly if that exceeds tail": start + size.
unfoldable pub temp_full : Sections → ℕ → ℕ → Bool
temp_full s size alignment = ltb s.tail (temp_start s alignment + size)

-- 15.
abbrev pub temp_room : Sections → ℕ → ℕ → List (Cause Outcome)
temp_room s size alignment = (temp_full s size alignment ⇒ refused_outcome A.no_room s) ∷ []

-- "start + size becomes temp".
abbrev pub temp_done : Sections → ℕ → ℕ → Outcome
temp_done s size alignment = done_outcome (temp_start s alignment) (with_temp s (temp_start s alignment + size))

-- A temporary allocation: 13, 14, 15.
unfoldable pub temp_of : ℕ → Sections → ℕ → ℕ → Outcome
temp_of g s size alignment = first_cause (allocation_causes g s alignment ++ temp_room s size alignment) (temp_done s size alignment)

-- "Reset: temp becomes head."
unfoldable pub reset_of : Sections → Outcome
reset_of s = first_cause (state_causes s) (done_outcome 0 (with_temp s s.head))

-- "Set head to a length: 16 if temp ≠ head; 17 if below head; 15 if above tail".
abbrev pub head_causes : Sections → ℕ → List (Cause Outcome)
head_causes s length =
    (not (eqb s.temp s.head) ⇒ refused_outcome A.temporaries_out s)
    ∷ (ltb length s.head ⇒ refused_outcome A.head_made_smaller s)
    ∷ (ltb s.tail length ⇒ refused_outcome A.no_room s)
    ∷ []

-- "else head = temp = length": 13, 16, 17, 15.
unfoldable pub head_of : Sections → ℕ → Outcome
head_of s length = first_cause (state_causes s ++ head_causes s length) (done_outcome 0 (with_head s length))
