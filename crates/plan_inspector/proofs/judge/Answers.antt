-- `plan_inspector::judge` meets its contract: a refusal of the checks 1 to 5 stands, and past them the inspector's own decide.
use Rattle.std.proofs.Common.{sym, ◌∙◌, ap, rules}
use Rattle.std.specs.Prelude.{◌≡◌, Err}
use Rattle.answer.specs.Answer.{number_of}
use Rattle.answer.proofs.Told.{refusal_refuses}
use Rattle.request_table.proofs.CheckLaws.{checked}
use Rattle.inspection_rule.proofs.Answers.{check_stands, proposal_decides}
use Rattle.plan_inspector.proofs.judge.Goals as goal

pub returns-in_err-check : goal.returns-in_err-check
returns-in_err-check c =
    let told = c.in_err-check.ensures in
    let r : c.from_residual.result ≡ Err c.in_err-check.field-0.0 = search rules in
    rw r (told ∙ check_stands _ _ _ _ (refusal_refuses _ told))

-- past the checks 1 to 5, what they say
pub judge_offsets-requires : goal.judge_offsets-requires
judge_offsets-requires c = (checked _ _ _ _ (ap number_of (sym c.in_ok-check.ensures))).shaped.few

pub returns : goal.returns
returns c = c.judge_offsets.ensures ∙ proposal_decides _ _ _ _ (checked _ _ _ _ (ap number_of (sym c.in_ok-check.ensures)))
