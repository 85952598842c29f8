-- `shaped_requests::size_requests` meets its contract: a refusal of the lengths stands, past them one of the shapes; else the requests are stored.
use Rattle.std.specs.Prelude.{ℕ, List, Err, ◌≡◌, ℤ}
use Rattle.std.proofs.Common.{sym, ◌∙◌, ap, rules}
use Rattle.answer.specs.Answer.{number_of, done_with}
use Rattle.answer.proofs.Told.{refusal_refuses}
use Rattle.shape_rule.specs.ShapeAnswers.{Fitting}
use Rattle.shape_rule.proofs.ShapeAnswers.{lengths_passed, lengths_stand, shapes_decide, done_requests, refusal_keeps}
use Rattle.shape_rule.specs.Sized.{lengths_of}
use Rattle.shaped_requests.proofs.size_requests.Goals as goal

-- past the checks of the lengths, what they say
passed : {t : List ℤ} {room : ℕ} → done_with 0 ≡ lengths_of t room → Fitting t room
passed e = lengths_passed _ _ (ap number_of (sym e))

pub returns-in_err-check_lengths-clause-answer : goal.returns-in_err-check_lengths-clause-answer
returns-in_err-check_lengths-clause-answer c =
    let e = c.in_err-check_lengths.ensures in
    let r : c.from_residual.result ≡ Err c.in_err-check_lengths.field-0.0 = search rules in
    rw r (e ∙ lengths_stand _ _ (refusal_refuses _ e))

pub returns-in_err-check_lengths-clause-table : goal.returns-in_err-check_lengths-clause-table
returns-in_err-check_lengths-clause-table c =
    let e = c.in_err-check_lengths.ensures in
    sym (refusal_keeps _ _ (refusal_refuses _ (e ∙ lengths_stand _ _ (refusal_refuses _ e))))

pub judge-requires : goal.judge-requires
judge-requires c = (passed c.in_ok-check_lengths.ensures).few

-- the answer for the shapes is the whole answer
pub returns-in_err-judge-clause-answer : goal.returns-in_err-judge-clause-answer
returns-in_err-judge-clause-answer c =
    let r : c.from_residual-in_err-judge.result ≡ Err c.in_err-judge.field-0.0 = search rules in
    rw r (c.in_err-judge.ensures ∙ shapes_decide _ _ (passed c.in_ok-check_lengths.ensures))

pub returns-in_err-judge-clause-table : goal.returns-in_err-judge-clause-table
returns-in_err-judge-clause-table c = sym (refusal_keeps _ _ (refusal_refuses _ (c.in_err-judge.ensures ∙ shapes_decide _ _ (passed c.in_ok-check_lengths.ensures))))

pub store-requires : goal.store-requires
store-requires c = let f = passed c.in_ok-check_lengths.ensures in (f.few, f.roomy)

pub returns-clause-answer : goal.returns-clause-answer
returns-clause-answer c = c.in_ok-judge.ensures ∙ shapes_decide _ _ (passed c.in_ok-check_lengths.ensures)

pub returns-clause-table : goal.returns-clause-table
returns-clause-table c =
    let all = c.in_ok-judge.ensures ∙ shapes_decide _ _ (passed c.in_ok-check_lengths.ensures) in
    c.store.ensures ∙ sym (done_requests _ _ (ap number_of (sym all)))
