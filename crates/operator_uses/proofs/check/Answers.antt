-- `operator_uses::check` meets its contract: a refusal of the first three stands, and past them the lowest bad use is told.
use Prim.Native.Nat.{ℕ}
use Rattle.std.proofs.Common.{arith, sym, ◌∙◌, ap, refl, rules}
use Rattle.std.specs.Prelude.{List, ℤ, ◌≡◌, Err}
use Rattle.answer.specs.Answer.{number_of, done_with}
use Rattle.answer.specs.Refusals.{told}
use Rattle.answer.proofs.Told.{refusal_refuses}
use Rattle.lifetime_rule.specs.Answers.{Sized}
use Rattle.lifetime_rule.proofs.Answers.{sizes_passed, sizes_stand, use_refused, list_passed}
use Rattle.lifetime_rule.specs.FromUses.{sizes_of}
use Rattle.lifetime_rule.specs.Uses.{bad_use}
use Rattle.use_rows.proofs.IndexFound.{index_found, none_found}
use Rattle.operator_uses.proofs.check.Goals as goal

-- past the checks 1, 2 and 3, what they say
sized : {operators tensors : ℕ} {u : List ℤ} {room : ℕ} → done_with 0 ≡ sizes_of operators tensors u room → Sized operators tensors u room
sized e = sizes_passed _ _ _ _ (ap number_of (sym e))

pub returns-in_err-check_sizes : goal.returns-in_err-check_sizes
returns-in_err-check_sizes c =
    let e = c.in_err-check_sizes.ensures in
    let r : c.from_residual.result ≡ Err c.in_err-check_sizes.field-0.0 = search rules in
    rw r (e ∙ sizes_stand _ _ _ _ (refusal_refuses _ e))

pub overflow_cast-row : goal.overflow_cast-row
overflow_cast-row c =
    let f = index_found (bad_use c.args.list.now.operators c.args.list.now.tensors c.args.list.now.uses.now) _ _ (sym c.lowest_bad_use.ensures ∙ c.in-Some.is) in
    omega (arith, f.0, f.1, (sized c.in_ok-check_sizes.ensures).few_uses)

pub returns-in-Some : goal.returns-in-Some
returns-in-Some c =
    let f = index_found (bad_use c.args.list.now.operators c.args.list.now.tensors c.args.list.now.uses.now) _ _ (sym c.lowest_bad_use.ensures ∙ c.in-Some.is) in
    ap told c.at.ensures ∙ use_refused _ _ _ _ (sym f.1) (sized c.in_ok-check_sizes.ensures) (omega (arith, f.0, f.1))

pub returns : goal.returns
returns c =
    let none = none_found (bad_use c.args.list.now.operators c.args.list.now.tensors c.args.list.now.uses.now) _ (sym c.lowest_bad_use.ensures ∙ c.in_default.is) in
    list_passed _ _ _ _ refl (sized c.in_ok-check_sizes.ensures) none
