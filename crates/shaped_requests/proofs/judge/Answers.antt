-- `shaped_requests::judge` meets its contract: the scan of the rows.
use Rattle.std.specs.Prelude.{ℕ, Result, Ok, Err, MatchResult, IsErrAnd, is_ok, true, List, ℤ, ◌≡◌}
use Rattle.std.proofs.Common.{sym, ◌∙◌, ap, rules}
use Rattle.answer.specs.Answer.{number_of, refused_at}
use Rattle.answer.specs.Refusals.{told, answer_of, refused_for_at}
use Rattle.answer.specs.declared.Answer.{Answer}
use Rattle.answer.specs.declared.Refusal.{Refusal}
use Rattle.answer.proofs.Told.{refusal_refuses}
use Rattle.bounded.proofs.First.{pass, hit, out}
use Rattle.shape_rule.specs.ShapeTable.{tensor_size, bad_shape}
use Rattle.shape_rule.proofs.ShapeAnswers.{bad_of, good_of, shape_refused, shapes_passed}
use Rattle.shaped_requests.proofs.judge.Goals as goal

-- A refusal that names its row is of a bad shape, and carries that shape's number,
bad_row : (t : List ℤ) (r : ℕ) (P : Refusal → Refusal → Type 0) (size named : Result ℕ Refusal) {e : Refusal} → named ≡ Err e
    → MatchResult size (λ x. named ≡ Ok x) (λ y. IsErrAnd named (P y)) → answer_of size ≡ tensor_size t r
    → ((y : Refusal) → P y e → e ≡ refused_for_at y.cause r) → (bad_shape t r ≡ true) × (told e ≡ refused_at (tensor_size t r).number r)
bad_row t r P (Ok x) named is cases size at = absurd (cc (is, cases))
bad_row t r P (Err y) named is cases size at =
    (bad_of t r (refusal_refuses y size), ap told (at y (rw is at cases)) ∙ ap (λ (x : Answer). refused_at x.number r) size)

-- and a shape with a size is good.
good_row : (t : List ℤ) (r : ℕ) (size : Result ℕ Refusal) → true ≡ is_ok size → answer_of size ≡ tensor_size t r → (tensor_size t r).number ≡ 0
good_row t r (Ok x) is size = ap number_of (sym size)
good_row t r (Err y) is size = absurd (cc is)

pub returns-in_err-map_err : goal.returns-in_err-map_err
returns-in_err-map_err c =
    let l = c.loop-row-test.true in
    let bad = bad_row _ c.loop-row.row-counter _ _ _ c.in_err-map_err.was c.map_err.ensures.cases c.size_of_row.ensures (λ y k. search rules) in
    let r : c.from_residual.result ≡ Err c.in_err-map_err.field-0.0 = search rules in
    rw r (bad.1 ∙ shape_refused _ (hit c.loop-row.invariant l bad.0) l)

pub loop-row-preserved : goal.loop-row-preserved
loop-row-preserved c =
    pass c.loop-row.invariant c.loop-row-test.true (good_of _ _ (good_row _ _ _ c.in_ok-map_err.ensures.variant c.size_of_row.ensures))

pub returns : goal.returns
returns c = shapes_passed _ (out c.loop-row.invariant c.loop-row-test.false) c.loop-row-test.false
