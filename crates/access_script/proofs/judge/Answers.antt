-- `access_script::judge` meets its contract: a refusal of the lengths stands, then one of the inspector, and past both the touches decide.
use Rattle.std.proofs.Common.{sym, ◌∙◌, ap, rules}
use Rattle.std.specs.Prelude.{◌≡◌, Err}
use Rattle.answer.specs.Answer.{number_of}
use Rattle.answer.proofs.Told.{refusal_refuses}
use Rattle.access_rule.proofs.Answers.{lengths_passed, lengths_stand, inspection_stands, touches_decide}
use Rattle.access_script.proofs.judge.Goals as goal

pub returns-in_err-check_lengths : goal.returns-in_err-check_lengths
returns-in_err-check_lengths c =
    let told = c.in_err-check_lengths.ensures in
    let r : c.from_residual.result ≡ Err c.in_err-check_lengths.field-0.0 = search rules in
    rw r (told ∙ lengths_stand _ _ _ _ c.args.proposal.now.table.grid c.args.space c.args.held (refusal_refuses _ told))

pub returns-in_err-judge : goal.returns-in_err-judge
returns-in_err-judge c =
    -- past the checks 1 to 3, what they say
    let sized = lengths_passed _ _ _ _ (ap number_of (sym c.in_ok-check_lengths.ensures)) in
    let told = c.in_err-judge.ensures in
    let r : c.from_residual-in_err-judge.result ≡ Err c.in_err-judge.field-0.0 = search rules in
    rw r (told ∙ inspection_stands _ _ _ _ c.args.proposal.now.table.grid c.args.space c.args.held sized (refusal_refuses _ told))

pub judge_accesses-requires : goal.judge_accesses-requires
judge_accesses-requires c = (lengths_passed _ _ _ _ (ap number_of (sym c.in_ok-check_lengths.ensures))).few_accesses

pub returns : goal.returns
returns c =
    let sized = lengths_passed _ _ _ _ (ap number_of (sym c.in_ok-check_lengths.ensures)) in
    c.judge_accesses.ensures
    ∙ touches_decide _ _ _ _ c.args.proposal.now.table.grid c.args.space c.args.held sized (ap number_of (sym c.in_ok-judge.ensures))
