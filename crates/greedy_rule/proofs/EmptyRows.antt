-- Law: in the greedy plan an unfixed empty row has offset 0 and changes no other row's offset.
use Rattle.std.specs.Prelude.{ℕ, ◌<◌, false, ◌≡◌, ℤ}
use mathlib.Core.List.{List, ◌∷◌, ◌++◌}
use Rattle.std.proofs.Common.{◌∙◌}
use Rattle.std.proofs.Math.Path.{ap}
use Rattle.request_table.specs.Table.{rows, request, fixed}
use Rattle.placement.proofs.EmptyRows.{empty_lowest, left_out}
use Rattle.placement.specs.Placing.{offset_for, place}
use Rattle.greedy_rule.specs.Greedy.{fixed_first, greedy_order, greedy_plan}
use Rattle.greedy_rule.proofs.PlanByPosition.{plan_takes}

module _ (g : ℕ) (t : List ℤ) (r : ℕ) (e : (request t r).size ≡ 0) where
  -- It has offset 0.
  pub empty_at_zero : r < rows t → fixed t r ≡ false → greedy_plan g t r ≡ 0
  unfolding offset_for
  empty_at_zero l f = plan_takes g t r l ∙ rw (f, offset_for) (empty_lowest g t r e _)

  -- Left out of the order, it leaves every other row where it was.
  pub empty_changes_nothing : (xs ys : List ℕ) → fixed_first t (greedy_order g t) ≡ xs ++ (r ∷ ys) → (q : ℕ) → (q ≡ r → ⊥) → greedy_plan g t q ≡ place g t (xs ++ ys) q
  unfolding greedy_plan
  empty_changes_nothing xs ys h q d = ap (λ (l : List ℕ). place g t l q) h ∙ left_out g t r e xs ys q d
