-- Law: whenever the greedy planner is done, the inspector accepts its plan for the same table and space, with the same need.
use Rattle.std.specs.Prelude.{ℕ, ◌/◌, ◌<◌, ◌≤◌, List, ◌≡◌, ℤ, length}
use Rattle.std.proofs.Math.Path.{sym, ap}
use Rattle.std.proofs.Common.{◌∙◌, subst, arith}
use Rattle.std.proofs.Math.Nat.{div-add-mod'}
use Rattle.std.proofs.Math.IntN.{pos}
use Rattle.alignment.proofs.Rounding.{up_something}
use Rattle.answer.specs.Answer.{done_with}
use Rattle.words.specs.Words.{natural}
use Rattle.words.specs.WordOrders.{within}
use Rattle.request_table.specs.Buffers.{buffer_at}
use Rattle.request_table.specs.Colliding.{Colliding}
use Rattle.request_table.proofs.GoodRows.{fixed_small}
use Rattle.request_table.specs.Limits.{greatest_space}
use Rattle.request_table.proofs.Needs.{need_same}
use Rattle.request_table.specs.Table.{rows, word, request, fixed_offset}
use Rattle.request_table.proofs.WellFormed.{passed_is_well_formed}
use Rattle.greedy_rule.proofs.Answers.{Done, done_says}
use Rattle.greedy_rule.specs.DonePlans.{DonePlan}
use Rattle.greedy_rule.proofs.DonePlans.{done_plan}
use Rattle.greedy_rule.specs.Greedy.{greedy_plan}
use Rattle.greedy_rule.specs.Plan.{greedy_need, plan_of, planned_table}
use Rattle.inspection_rule.specs.ExactRule.{Acceptable}
use Rattle.inspection_rule.proofs.ExactRule.{fixed_of, own_offset, accepted_exactly, accepted_needs}
use Rattle.inspection_rule.specs.Inspect.{proposed, proposed_need, inspect_of}

module _ (g : ℕ) (t : List ℤ) (space : ℕ) (lent : List ℤ) (h : 0 < g) (e : (plan_of g t space (length lent)).number ≡ 0) where
  -- the table that the planner leaves
  planned : List ℤ
  planned = planned_table g t space lent

  plan : DonePlan g t space lent
  plan = done_plan g t space lent e

  done : Done g t space (length lent)
  done = done_says g t space (length lent) e

  -- what it proposes is the plan
  proposes : (r : ℕ) → r < rows t → proposed planned r ≡ greedy_plan g t r
  unfolding natural planned
  proposes r l = ap natural (plan.entries r l)

  same_need : proposed_need g t planned ≡ greedy_need g t
  unfolding proposed_need greedy_need
  same_need = need_same g t (proposed planned) (greedy_plan g t) proposes

  acceptable : Acceptable g t space planned
  unfolding planned
  acceptable =
      record {
        table = passed_is_well_formed g t space (length lent) done.checks;
        room = omega (arith, plan.long, done.checks.shaped.roomy);
        allowed = done.checks.allowed;
        unmoved = λ r l f.
            let s : fixed_offset t r ≤ greatest_space = fixed_small g t r (done.checks.good_rows r l) (fixed_of t r f) in
            plan.entries r l ∙ ap pos (plan.fixed_stay r l (fixed_of t r f) ∙ own_offset t r)
            ∙ sym (within (word t r 3) greatest_space (omega arith) (omega (arith, own_offset t r))).is;
        aligned = λ r l.
            record { times = greedy_plan g t r / g; is = plan.entries r l ∙ ap pos (omega (arith, plan.aligned r l, div-add-mod' (greedy_plan g t r) g)) };
        fits = λ r l s.
            omega (arith, proposes r l, plan.fits, plan.need_most r l (up_something g (request t r).size h s));
        apart_rows = λ a b l m c.
            plan.apart a b (omega arith) m (omega arith)
            (subst (λ (x : ℕ). Colliding (buffer_at g t a x) (buffer_at g t b (greedy_plan g t b))) (proposes a (omega arith))
            (subst (λ (x : ℕ). Colliding (buffer_at g t a (proposed planned a)) (buffer_at g t b x)) (proposes b m) c));
      }

  -- The inspector accepts the planner's plan, with the planner's answer.
  pub planner_accepted : inspect_of g t space (planned_table g t space lent) ≡ plan_of g t space (length lent)
  unfolding planned
  planner_accepted =
      accepted_needs g t space planned ((accepted_exactly g t space planned h).1 acceptable) ∙ ap done_with same_need ∙ sym plan.answer
