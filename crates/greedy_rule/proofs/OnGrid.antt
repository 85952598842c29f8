-- Law: every offset of the greedy plan of good rows is a multiple of the grid, so that every tensor is aligned.
use Prim.Native.Nat.{ℕ, zero, suc, ◌%◌, ◌<◌, ◌≤◌}
use Rattle.std.specs.Prelude.{Bool, true, false, List, ◌⊎◌, ◌≡◌, ℤ}
use Rattle.std.proofs.Common.{inl, inr, sym, ◌∙◌, ap, arith, ltb-true}
use Rattle.std.proofs.Math.Path.{refl}
use Rattle.std.proofs.Math.Nat.{zero-mod}
use Rattle.request_table.proofs.GoodRows.{fixed_on_grid}
use Rattle.alignment.proofs.Rounding.{up_from_multiple}
use Rattle.request_table.specs.Table.{rows, request, fixed, good}
use Rattle.placement.proofs.LowestFree.{EndsAt, lowest_is_an_end}
use Rattle.placement.specs.Placing.{lowest, offset_for}
use Rattle.greedy_rule.specs.Greedy.{greedy_plan}
use Rattle.greedy_rule.proofs.GreedyOrder.{position_listed}
use Rattle.greedy_rule.specs.GreedyOrder.{position}
use Rattle.greedy_rule.proofs.PlanByPosition.{stage, placed_from, plan_takes, stage_is_plan, fixed_rows_stay}

module _ (g : ℕ) (t : List ℤ) (goods : (r : ℕ) → r < rows t → good g (request t r) ≡ true) where
  -- the rows of the first k places
  below : (k : ℕ) → (r : ℕ) → r < rows t → position g t r < k → greedy_plan g t r % g ≡ 0
  unfolding offset_for
  below zero r l p = absurd (omega arith)
  below (suc k) r l p = go (below k) (fixed t r) refl
    where
      within : position g t r ≤ rows t
      within = omega (arith, (position_listed g t r l).0)

      Lower : Type 0
      Lower = (b : ℕ) → b < rows t → position g t b < k → greedy_plan g t b % g ≡ 0

      on : Lower → (o : ℕ) → o ≡ greedy_plan g t r → (o ≡ 0) ⊎ EndsAt g t (stage g t (position g t r)) r o → o % g ≡ 0
      on rec o q (inl e) = ap (λ (i : ℕ). i % g) e ∙ zero-mod g
      on rec o q (inr e) =
          let b : position g t e.row < position g t r = ltb-true _ _ (sym (placed_from g t e.row e.within (position g t r) within) ∙ e.placed) in
          let s = stage_is_plan g t e.row e.within (position g t r) within b in
          ap (λ (i : ℕ). i % g) (sym e.there)
          ∙ up_from_multiple g (request t e.row).size _ (ap (λ (i : ℕ). i % g) s ∙ rec e.row e.within (omega arith))

      go : Lower → (x : Bool) → fixed t r ≡ x → greedy_plan g t r % g ≡ 0
      go rec true f = ap (λ (i : ℕ). i % g) (fixed_rows_stay g t r l f) ∙ fixed_on_grid g t r (goods r l) f
      go rec false f =
          let took : greedy_plan g t r ≡ lowest g t (stage g t (position g t r)) r = plan_takes g t r l ∙ rw (f, offset_for) in
          ap (λ (i : ℕ). i % g) took ∙ on rec _ (sym took) (lowest_is_an_end g t (stage g t (position g t r)) r)

  -- Every row's offset is a multiple of the grid.
  pub plan_on_grid : (r : ℕ) → r < rows t → greedy_plan g t r % g ≡ 0
  plan_on_grid r l = below (rows t) r l (position_listed g t r l).0
