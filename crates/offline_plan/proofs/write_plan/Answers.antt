-- `offline_plan::write_plan` meets its contract: a refusal changes nothing; past it the plan's words are put.
use Rattle.std.proofs.Common.{sym, ◌∙◌, ap}
use Rattle.answer.specs.Answer.{number_of}
use Rattle.answer.proofs.Told.{refusal_refuses}
use Rattle.offline_rule.proofs.Answers.{write_says, done_written, refusal_keeps_bytes}
use Rattle.offline_plan.proofs.write_plan.Goals as goal

pub returns-in_err-check_written-clause-bytes : goal.returns-in_err-check_written-clause-bytes
returns-in_err-check_written-clause-bytes c = sym (refusal_keeps_bytes _ _ (refusal_refuses _ c.in_err-check_written.ensures))

pub put_plan-requires : goal.put_plan-requires
put_plan-requires c = write_says _ _ (ap number_of (sym c.in_ok-check_written.ensures))

pub returns-clause-bytes : goal.returns-clause-bytes
returns-clause-bytes c = c.put_plan.ensures ∙ sym (done_written _ _ (ap number_of (sym c.in_ok-check_written.ensures)))
