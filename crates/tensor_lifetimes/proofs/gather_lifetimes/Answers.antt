-- `tensor_lifetimes::gather_lifetimes` meets its contract: a refusal of the checks 1, 2, 3 and 5 stands, past them one of 20 and 21; else the lives are
-- stored.
use Rattle.std.specs.Prelude.{ℕ, List, Err, ◌≡◌, ℤ}
use Rattle.std.proofs.Common.{sym, ◌∙◌, ap, rules}
use Rattle.answer.specs.Answer.{number_of, done_with}
use Rattle.answer.proofs.Told.{refusal_refuses}
use Rattle.lifetime_rule.specs.Answers.{Sized, EachGood}
use Rattle.lifetime_rule.proofs.Answers.{listed, list_stands, judged_decides, done_says, done_lifetimes, refusal_keeps}
use Rattle.lifetime_rule.specs.FromUses.{list_of}
use Rattle.tensor_lifetimes.proofs.Judging.{stored_is, storable}
use Rattle.tensor_lifetimes.proofs.gather_lifetimes.Goals as goal

-- past the checks 1, 2, 3 and 5, what they say
passed : {operators tensors : ℕ} {u : List ℤ} {room : ℕ} → done_with 0 ≡ list_of operators tensors u room → Sized operators tensors u room × EachGood operators tensors u
passed e = listed _ _ _ _ (ap number_of (sym e))

pub returns-in_err-check-clause-answer : goal.returns-in_err-check-clause-answer
returns-in_err-check-clause-answer c =
    let e = c.in_err-check.ensures in
    let r : c.from_residual.result ≡ Err c.in_err-check.field-0.0 = search rules in
    rw r (e ∙ list_stands _ _ _ _ (refusal_refuses _ e))

pub returns-in_err-check-clause-table : goal.returns-in_err-check-clause-table
returns-in_err-check-clause-table c =
    let e = c.in_err-check.ensures in
    sym (refusal_keeps _ _ _ _ (refusal_refuses _ (e ∙ list_stands _ _ _ _ (refusal_refuses _ e))))

pub gather-gathered-requires : goal.gather-gathered-requires
gather-gathered-requires c =
    let p = passed c.in_ok-check.ensures in
    record { tensors = c.args.list.now.tensors; few_tensors = p.0.few_tensors; few_operators = p.0.few_operators; uses_good = p.1 }

pub judge-requires-clause-each_good : goal.judge-requires-clause-each_good
judge-requires-clause-each_good c = (passed c.in_ok-check.ensures).1

pub judge-requires-clause-tensors_le_greatest_tensors : goal.judge-requires-clause-tensors_le_greatest_tensors
judge-requires-clause-tensors_le_greatest_tensors c = let p = passed c.in_ok-check.ensures in (p.0.few_tensors, p.0.few_uses)

-- the answer of the checks 20 and 21 is the whole answer
pub returns-in_err-judge-clause-answer : goal.returns-in_err-judge-clause-answer
returns-in_err-judge-clause-answer c =
    let p = passed c.in_ok-check.ensures in
    let r : c.from_residual-in_err-judge.result ≡ Err c.in_err-judge.field-0.0 = search rules in
    rw r (c.in_err-judge.ensures ∙ judged_decides _ _ _ _ p.0 p.1)

pub returns-in_err-judge-clause-table : goal.returns-in_err-judge-clause-table
returns-in_err-judge-clause-table c =
    let p = passed c.in_ok-check.ensures in
    sym (refusal_keeps _ _ _ _ (refusal_refuses _ (c.in_err-judge.ensures ∙ judged_decides _ _ _ _ p.0 p.1)))

pub store-requires-clause-tensors_le_greatest_tensors : goal.store-requires-clause-tensors_le_greatest_tensors
store-requires-clause-tensors_le_greatest_tensors c = let p = passed c.in_ok-check.ensures in (p.0.few_tensors, p.0.roomy)

pub store-requires-clause-storable_lifetimes : goal.store-requires-clause-storable_lifetimes
store-requires-clause-storable_lifetimes c =
    let p = passed c.in_ok-check.ensures in
    let d = done_says _ _ _ _ (ap number_of (sym (c.in_ok-judge.ensures ∙ judged_decides _ _ _ _ p.0 p.1))) in
    storable c.gather-gathered.ensures _ p.0.few_tensors p.0.few_operators d.all_named

pub returns-clause-answer : goal.returns-clause-answer
returns-clause-answer c = let p = passed c.in_ok-check.ensures in c.in_ok-judge.ensures ∙ judged_decides _ _ _ _ p.0 p.1

pub returns-clause-table : goal.returns-clause-table
returns-clause-table c =
    let p = passed c.in_ok-check.ensures in
    let all = c.in_ok-judge.ensures ∙ judged_decides _ _ _ _ p.0 p.1 in
    c.store.ensures ∙ stored_is c.gather-gathered.ensures _ _ p.0.few_tensors ∙ sym (done_lifetimes _ _ _ _ (ap number_of (sym all)))
