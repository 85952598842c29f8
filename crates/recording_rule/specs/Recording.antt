-- A persistent allocation through the ledger (document 02, order 4): its answer, the sections' next state and the next ledger. The allocation itself is the
-- sections' own; what the ledger refuses stands among the sections' own refusals. Every refusal hands sections and ledger back as they came.
use Rattle.std.specs.Prelude.{ℕ, ◌-◌, true, false, not, List, [], ◌∷◌, ◌++◌, eqb, leb}
use Rattle.alignment.specs.Alignments.{allowed}
use Rattle.answer.specs.Answer as A
use Rattle.arena_sections.specs.Sections.{refused_outcome, state_causes, gap_below, persistent_room, persistent_done}
use Rattle.arena_sections.specs.declared.Outcome.{Outcome}
use Rattle.arena_sections.specs.declared.Sections.{Sections}
use Rattle.bounded.specs.Causes.{Cause, ◌⇒◌, first_cause}
use Rattle.recording_rule.specs.Ledger.{kind_count, greatest_count, of_kind, balanced, with_keep_of}
use Rattle.recording_rule.specs.declared.Ledger.{Ledger}
use Rattle.recording_rule.specs.declared.Recording.{Recording}

-- 13 for a ledger: it is not balanced against "usable less tail".
abbrev pub ledger_causes : Sections → Ledger → List (Cause Outcome)
ledger_causes s l = (not (balanced l (s.usable - s.tail)) ⇒ refused_outcome A.sections_not_valid s) ∷ []

-- 14, 25, 2: "Codes are 0 to 5 in that order; another is number 25, tested after 14. A kind takes 65,535 keeps; one more is number 2, tested after 25."
abbrev pub kind_causes : ℕ → Sections → Ledger → ℕ → ℕ → List (Cause Outcome)
kind_causes g s l kind alignment =
    (not (allowed g alignment) ⇒ refused_outcome A.bad_alignment s)
    ∷ (leb kind_count kind ⇒ refused_outcome A.bad_allocation_kind s)
    ∷ (leb greatest_count (of_kind l kind).count ⇒ refused_outcome A.too_many s)
    ∷ []

-- 13, 14, 25, 2, 15.
abbrev pub recording_causes : ℕ → Sections → Ledger → ℕ → ℕ → ℕ → List (Cause Outcome)
recording_causes g s l kind size alignment =
    state_causes s ++ ledger_causes s l ++ kind_causes g s l kind alignment ++ persistent_room s size alignment

-- What comes of the sections: a refusal, or the sections' own allocation.
unfoldable pub recorded_of : ℕ → Sections → Ledger → ℕ → ℕ → ℕ → Outcome
recorded_of g s l kind size alignment = first_cause (recording_causes g s l kind size alignment) (persistent_done s size alignment)

-- The ledger after it: with the keep and its gap where it is done, else as it was.
unfoldable pub ledger_after : ℕ → Sections → Ledger → ℕ → ℕ → ℕ → Ledger
ledger_after g s l kind size alignment =
    elim (eqb (recorded_of g s l kind size alignment).answer.number A.done) [
      | true ↦ with_keep_of l kind size (gap_below s.tail size alignment)
      | false ↦ l
    ]

-- Both, as they are handed back with the answer.
abbrev pub recording_of : ℕ → Sections → Ledger → ℕ → ℕ → ℕ → Recording
recording_of g s l kind size alignment =
    record {
      answer = (recorded_of g s l kind size alignment).answer;
      sections = (recorded_of g s l kind size alignment).sections;
      ledger = ledger_after g s l kind size alignment;
    }
