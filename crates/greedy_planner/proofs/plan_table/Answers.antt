-- `greedy_planner::plan_table` meets its contract.
use mathlib.Core.Path.{sym}
use Rattle.answer.proofs.Told.{refusal_tells, refusal_refuses}
use Rattle.greedy_rule.proofs.DonePlans.{refusal_keeps}
use Rattle.greedy_planner.proofs.plan_table.Goals as goal

pub returns-in_err-check-clause-table : goal.returns-in_err-check-clause-table
returns-in_err-check-clause-table c = sym (refusal_keeps _ _ _ _ (refusal_refuses c.in_err-check.field-0.0 (c.in_err-check.ensures.refusal (refusal_tells c.in_err-check.field-0.0))))
