-- The inspector's answer as the code comes to it, cause after cause.
use Rattle.std.specs.Prelude.{ℕ, List, ℤ}
use Rattle.answer.specs.declared.Answer.{Answer}
use Rattle.bounded.specs.Causes.{first_cause}
use Rattle.inspection_rule.specs.Inspect.{plan_causes, accepted_answer}

-- The answer of the checks 7 and 10 alone: a step between the laws, which no contract cites.
unfoldable pub placed_of : ℕ → List ℤ → ℕ → List ℤ → Answer
placed_of g t space o = first_cause (plan_causes g t space o) (accepted_answer g t o)
