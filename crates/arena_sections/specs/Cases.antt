-- The outcomes as the code comes to them, cause after cause. This file stands behind the law of histories, so that a definition that breaks the law is
-- refused by the law before any code is.
use Rattle.std.specs.Prelude.{ℕ, Result, Ok, Err}
use Rattle.answer.specs.Refusals.{number_of_cause}
use Rattle.answer.specs.declared.Cause.{Cause}
use Rattle.arena_sections.specs.Sections.{refused_outcome, done_outcome}
use Rattle.arena_sections.specs.declared.Outcome.{Outcome}
use Rattle.arena_sections.specs.declared.Sections.{Sections}

-- An outcome's number.
abbrev pub number_of : Outcome → ℕ
number_of o = o.answer.number

-- What comes of an operation: done with the start and the next state, or refused for the cause, and this state is handed back.
abbrev pub outcome_by : Result (ℕ × Sections) Cause → Sections → Outcome
outcome_by (Ok step) s = done_outcome step.0 step.1
outcome_by (Err cause) s = refused_outcome (number_of_cause cause) s

-- What comes of checks: done with this state as it was, or refused for the cause.
abbrev pub checked_by : Result (Unit {0}) Cause → Sections → Outcome
checked_by (Ok u) s = done_outcome 0 s
checked_by (Err cause) s = refused_outcome (number_of_cause cause) s
