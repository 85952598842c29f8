-- Laws of the definitions of specs/DonePlans.antt.
use Rattle.std.specs.Prelude.{ℕ, ◌≡◌, ℤ}
use mathlib.Core.List.{List}
use Rattle.std.proofs.Common.{◌∙◌, eq-eqb, ne_eqb}
use Rattle.std.proofs.Math.Path.{ap}
use Rattle.std.proofs.Math.IntN.{pos}
use Rattle.std.proofs.Math.ListN.{length, get_or}
use Rattle.bounded.specs.Replaced.{replaced}
use Rattle.bounded.proofs.Replaced.{replaced_length, replaced_at, replaced_past}
use Rattle.request_table.proofs.Needs.{need_bounds, need_is_one}
use Rattle.request_table.specs.Table.{rows}
use Rattle.greedy_rule.proofs.Answers.{done_says, done_of}
use Rattle.greedy_rule.specs.Greedy.{greedy_plan}
use Rattle.greedy_rule.proofs.NoCollision.{no_rows_collide}
use Rattle.greedy_rule.proofs.OnGrid.{plan_on_grid}
use Rattle.greedy_rule.specs.Plan.{greedy_need, plan_of, planned_table}
use Rattle.greedy_rule.proofs.LowestPlace.{rest_takes_lowest}
use Rattle.greedy_rule.proofs.PlanByPosition.{fixed_rows_stay}
use Rattle.greedy_rule.specs.DonePlans.{DonePlan}

module _ (g : ℕ) (t : List ℤ) (space : ℕ) (lent : List ℤ) where
  -- The final table of a done answer.
  pub done_table : (plan_of g t space (length lent)).number ≡ 0 → planned_table g t space lent ≡ replaced (λ r. pos (greedy_plan g t r)) (rows t) lent
  unfolding planned_table
  done_table e = rw (eq-eqb (plan_of g t space (length lent)).number 0 e, planned_table)

  -- A done answer promises all this.
  pub done_plan : (plan_of g t space (length lent)).number ≡ 0 → DonePlan g t space lent
  unfolding greedy_need
  done_plan e =
      let d = done_says g t space (length lent) e in
      let q = done_table e in
      record {
        answer = done_of g t space (length lent) d;
        fits = d.fits;
        long = ap length q ∙ replaced_length (λ r. pos (greedy_plan g t r)) (rows t) lent;
        entries = λ r l. ap (λ (xs : List ℤ). get_or xs r (pos 0)) q ∙ replaced_at (λ i. pos (greedy_plan g t i)) (rows t) lent (pos 0) r l d.checks.shaped.roomy;
        rest = λ i l. ap (λ (xs : List ℤ). get_or xs i (pos 0)) q ∙ replaced_past (λ r. pos (greedy_plan g t r)) (rows t) lent (pos 0) i l;
        fixed_stay = fixed_rows_stay g t;
        others = rest_takes_lowest g t;
        aligned = plan_on_grid g t d.checks.good_rows;
        apart = no_rows_collide g t d.apart;
        need_most = need_bounds g t (greedy_plan g t);
        need_taken = need_is_one g t (greedy_plan g t);
      }

  -- A refusal leaves the lent table as it was.
  pub refusal_keeps : ((plan_of g t space (length lent)).number ≡ 0 → ⊥) → planned_table g t space lent ≡ lent
  unfolding planned_table
  refusal_keeps h = rw (ne_eqb (plan_of g t space (length lent)).number 0 h, planned_table)
