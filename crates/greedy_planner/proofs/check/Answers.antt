-- `greedy_planner::check` meets its contract.
use Prim.Native.Nat.{ℕ, ◌<◌}
use mathlib.Core.List.{List}
use mathlib.Core.Path.{◌≡◌, refl, sym, ◌∙◌, ap, ap₂}
use native.Mathlib.Omega.{arith}
use lib.IntN.{ℤ}
use Rattle.std.proofs.Common.{rules}
use Rattle.std.specs.Prelude.{Some, Err}
use Rattle.answer.specs.Answer.{number_of, done_with, refused_pair, fixed_rows_collide}
use Rattle.answer.specs.Refusals.{told}
use Rattle.answer.proofs.Told.{refusal_tells, refusal_refuses}
use Rattle.bounded.proofs.Pair.{least_pair}
use Rattle.request_table.specs.CheckLaws.{Checked}
use Rattle.request_table.specs.Checks.{check_of}
use Rattle.request_table.proofs.CheckLaws.{checked}
use Rattle.request_table.specs.Limits.{greatest_rows}
use Rattle.request_table.specs.Table.{rows}
use Rattle.greedy_rule.proofs.Answers.{check_stands, pair_refused}
use Rattle.greedy_rule.specs.Plan.{fixed_collide}
use Rattle.units.specs.declared.Row.{Row}
use Rattle.fixed_rows.specs.FixedPair.{fixed_pair}
use Rattle.fixed_rows.proofs.FixedPairs.{pair_says, nothing_says}
use Rattle.greedy_planner.proofs.check.Goals as goal

-- past the checks 1 to 5, what they say
checks : (g : ℕ) (t : List ℤ) (space room : ℕ) → done_with 0 ≡ check_of g t space room → Checked g t space room
checks g t space room e = checked _ _ _ _ (ap number_of (sym e))

-- the pair that was found lies below the number of rows, which is small
small : (g : ℕ) (t : List ℤ) (space room : ℕ) (a b : Row) → Checked g t space room → Some (a, b) ≡ fixed_pair g t → (a.0 < greatest_rows) × (b.0 < greatest_rows)
small g t space room a b k e =
    let p = pair_says g t a b e in
    let l = least_pair (fixed_collide g t) (rows t) p.0 in
    let f = k.shaped.few in
    omega (arith, l.rising, l.within, p.1, p.2)

pub returns-in_err-check : goal.returns-in_err-check
returns-in_err-check c =
    let e = c.in_err-check.ensures in
    let r : c.from_residual.result ≡ Err c.in_err-check.field-0.0 = search rules in
    rw r record { refusal = λ h. e ∙ check_stands _ _ _ _ (refusal_refuses _ e); passed = λ z. absurd (refusal_tells c.in_err-check.field-0.0 z) }

pub overflow_cast-a : goal.overflow_cast-a
overflow_cast-a c =
    let u = c.args in
    omega (arith, small _ _ _ _ c.in-Some.a c.in-Some.b (checks u.table.now.grid u.table.now.words.now u.space u.room c.in_ok-check.ensures) c.in-Some.ensures)

pub overflow_cast-b : goal.overflow_cast-b
overflow_cast-b c =
    let u = c.args in
    omega (arith, small _ _ _ _ c.in-Some.a c.in-Some.b (checks u.table.now.grid u.table.now.words.now u.space u.room c.in_ok-check.ensures) c.in-Some.ensures)

pub returns-in-Some : goal.returns-in-Some
returns-in-Some c =
    let u = c.args in
    let k = checks u.table.now.grid u.table.now.words.now u.space u.room c.in_ok-check.ensures in
    let p = pair_says u.table.now.grid u.table.now.words.now c.in-Some.a c.in-Some.b c.in-Some.ensures in
    record {
      refusal = λ h. ap told c.pair.ensures ∙ ap₂ (refused_pair fixed_rows_collide) p.1 p.2 ∙ pair_refused _ _ _ _ k p.0;
      passed = λ z. absurd (refusal_tells c.pair.result z);
    }

pub returns-in-None : goal.returns-in-None
returns-in-None c =
    let u = c.args in
    record {
      refusal = λ h. absurd (h refl);
      passed =
          λ z.
          record {
            checks = checks u.table.now.grid u.table.now.words.now u.space u.room c.in_ok-check.ensures;
            apart = nothing_says _ _ c.in-None.ensures;
          };
    }
