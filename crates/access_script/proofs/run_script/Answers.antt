-- `access_script::run_script` meets its contract.
use Rattle.std.proofs.Common.{sym, ◌∙◌, ap, rules}
use Rattle.std.specs.Prelude.{◌≡◌, Err}
use Rattle.answer.specs.Answer.{number_of}
use Rattle.answer.proofs.Told.{refusal_refuses}
use Rattle.access_rule.proofs.Answers.{done_says, done_arena, done_bytes, refusal_keeps}
use Rattle.access_rule.proofs.Ready.{ready}
use Rattle.access_script.proofs.run_script.Goals as goal

-- what is returned at once is a refusal, which leaves both tables as lent
pub returns-in_err-judge-clause-answer : goal.returns-in_err-judge-clause-answer
returns-in_err-judge-clause-answer c =
    let r : c.from_residual.result ≡ Err c.in_err-judge.field-0.0 = search rules in
    rw r c.in_err-judge.ensures

pub returns-in_err-judge-clause-arena : goal.returns-in_err-judge-clause-arena
returns-in_err-judge-clause-arena c = sym (refusal_keeps c.args.proposal.now.table.grid _ _ _ _ _ _ (refusal_refuses _ c.in_err-judge.ensures)).0

pub returns-in_err-judge-clause-bytes : goal.returns-in_err-judge-clause-bytes
returns-in_err-judge-clause-bytes c = sym (refusal_keeps c.args.proposal.now.table.grid _ _ _ _ _ _ (refusal_refuses _ c.in_err-judge.ensures)).1

-- past the judging, the answer is done
pub perform-requires : goal.perform-requires
perform-requires c =
    let grid = c.args.proposal.now.table.grid in
    ready grid _ _ _ _ _ _ c.requires (done_says _ _ _ _ grid _ _ (ap number_of (sym c.in_ok-judge.ensures)))

pub returns-clause-arena : goal.returns-clause-arena
returns-clause-arena c =
    c.perform.ensures.arena ∙ sym (done_arena c.args.proposal.now.table.grid _ _ _ _ _ _ (ap number_of (sym c.in_ok-judge.ensures)))

pub returns-clause-bytes : goal.returns-clause-bytes
returns-clause-bytes c =
    c.perform.ensures.bytes ∙ sym (done_bytes c.args.proposal.now.table.grid _ _ _ _ _ _ (ap number_of (sym c.in_ok-judge.ensures)))
