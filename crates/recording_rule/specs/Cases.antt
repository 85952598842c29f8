-- An allocation through the ledger as the code comes to it: what the ledger refuses is told among the sections' own checks, and past them the sections' own
-- allocation stands.
use Rattle.std.specs.Prelude.{ℕ, ◌+◌, ◌-◌, ◌^◌, ◌<◌, ◌≤◌, ◌≡◌, Result, Ok, Err}
use Rattle.alignment.specs.Alignments.{Allowed}
use Rattle.answer.specs.Answer.{done_at, refused}
use Rattle.answer.specs.Refusals.{number_of_cause}
use Rattle.answer.specs.declared.Cause.{Cause}
use Rattle.arena_sections.specs.Ordered.{Ordered}
use Rattle.arena_sections.specs.Sections.{persistent_start, persistent_done}
use Rattle.arena_sections.specs.declared.Sections.{Sections}
use Rattle.recording_rule.specs.Balance.{Balanced}
use Rattle.recording_rule.specs.Ledger.{kind_count, greatest_count, of_kind}
use Rattle.recording_rule.specs.Recording.{recorded_of}
use Rattle.recording_rule.specs.declared.Ledger.{Ledger}
use Rattle.recording_rule.specs.declared.Recording.{Recording}

-- ---- what is so of a recorded allocation

-- One allocation more can be recorded of a kind: no sum is above the greatest number of 32 bits.
pub record Recordable (l : Ledger) (kind size taken : ℕ) : Type 0 where
  pub named : kind < kind_count
  pub has_size : size ≤ taken
  pub requested_fits : (of_kind l kind).requested + size < 2 ^ 32
  pub used_fits : (of_kind l kind).used + taken < 2 ^ 32
  pub countable : (of_kind l kind).count < greatest_count

-- An allocation that the sections and the ledger take, and what comes of it.
pub record Recorded (g : ℕ) (s : Sections) (l : Ledger) (kind size a : ℕ) : Type 0 where
  pub valid_state : Ordered s
  pub valid_ledger : Balanced l (s.usable - s.tail)
  pub valid_alignment : Allowed g a
  pub named : kind < kind_count
  pub countable : (of_kind l kind).count < greatest_count
  pub fits : size ≤ s.tail
  pub room : s.temp ≤ persistent_start s size a
  pub is : recorded_of g s l kind size a ≡ persistent_done s size a

-- What comes of an allocation through the ledger: done with the start, the sections' next state and the next ledger, or refused for the cause, and these
-- sections and this ledger are handed back.
abbrev pub recording_of_step : Result (ℕ × Sections × Ledger) Cause → Sections → Ledger → Recording
recording_of_step (Ok step) s l = record { answer = done_at step.0; sections = step.1; ledger = step.2 }
recording_of_step (Err cause) s l = record { answer = refused (number_of_cause cause); sections = s; ledger = l }
