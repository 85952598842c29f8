-- Laws of the definitions of specs/GoodUses.antt.
use Rattle.std.specs.Prelude.{ℕ, ◌<◌, ◌≤◌, ◌&&◌, ◌||◌, List, ◌⊎◌, ◌≡◌, ltb, ℤ, ◌≤ℤ◌, ◌<ℤ◌}
use Rattle.std.proofs.Math.Bool.{true}
use Rattle.std.proofs.Common.{inl, inr, sym, ◌∙◌, arith, leb-true, le-leb, ltb-true, lt-ltb, eqb-true}
use Rattle.std.proofs.Math.Logic.{⊎_map}
use Rattle.std.proofs.Math.Path.{ap, subst}
use Rattle.std.proofs.Math.Dec.{leb, eqb}
use Rattle.std.proofs.Math.IntN.{pos}
use Rattle.bounded.proofs.Boolean.{both, both_hold, either, lt_or_le}
use Rattle.words.specs.Words.{natural}
use Rattle.words.specs.WordOrders.{within, le_of, lt_of, of_le, of_lt, natural_of}
use Rattle.lifetime_rule.specs.Uses.{greatest_operators, greatest_tensors, writes, model_input, model_output, word, use_at, good_operator, good}
use Rattle.lifetime_rule.specs.declared.Use.{Use}
use Rattle.lifetime_rule.specs.GoodUses.{GoodUse, Natural, Role, Tests, input, output, reading, writing}

-- A role up to the last is one of them.
pub role_of : (r : ℕ) → r ≤ model_output → Role r
role_of r l = go (lt_or_le r writes) (lt_or_le r model_input) (lt_or_le r model_output)
  where
    go : (r < writes) ⊎ (writes ≤ r) → (r < model_input) ⊎ (model_input ≤ r) → (r < model_output) ⊎ (model_output ≤ r) → Role r
    go (inl a) b c = reading (omega arith)
    go (inr a) (inl b) c = writing (omega arith)
    go (inr a) (inr b) (inl c) = input (omega arith)
    go (inr a) (inr b) (inr c) = output (omega arith)

-- They hold of a good use.
pub tests : (operators tensors : ℕ) (x : Use) → good operators tensors x ≡ true → Tests operators tensors x
unfolding good
tests operators tensors x e =
    let a = both (leb x.role model_output) (ltb x.tensor.0 tensors && good_operator operators x) e in
    let b = both (ltb x.tensor.0 tensors) (good_operator operators x) a.1 in
    let c = both (ltb x.operator.0 operators) (leb x.role writes || eqb x.operator.0 0) b.1 in
    record {
      role = leb-true _ _ a.0;
      tensor = ltb-true _ _ b.0;
      operator = ltb-true _ _ c.0;
      zero_outside = ⊎_map (leb-true x.role writes) (eqb-true x.operator.0 0) (either _ _ c.1);
    }

module _ (operators tensors : ℕ) (u : List ℤ) (k : ℕ) (few_operators : operators ≤ greatest_operators) (few_tensors : tensors ≤ greatest_tensors) where
  -- The words of a good use are natural numbers.
  pub good_natural : good operators tensors (use_at u k) ≡ true → Natural u k
  unfolding use_at
  good_natural e =
      let x = tests operators tensors (use_at u k) e in
      record {
        operator_is = (within (word u k 0) greatest_operators (omega arith) (omega (arith, x.operator))).is;
        tensor_is = (within (word u k 1) greatest_tensors (omega arith) (omega (arith, x.tensor))).is;
        role_is = (within (word u k 2) model_output (omega arith) x.role).is;
      }

  -- A use that the definition calls good is good in the document's words,
  pub good_says : good operators tensors (use_at u k) ≡ true → GoodUse operators tensors u k
  unfolding natural use_at
  good_says e =
      let x = tests operators tensors (use_at u k) e in
      let n = good_natural e in
      record {
        role_from = subst (λ (z : ℤ). pos 0 ≤ℤ z) (sym n.role_is) (le_of 0 _ (omega arith));
        role_to = subst (λ (z : ℤ). z ≤ℤ pos 3) (sym n.role_is) (le_of _ _ x.role);
        tensor_from = subst (λ (z : ℤ). pos 0 ≤ℤ z) (sym n.tensor_is) (le_of 0 _ (omega arith));
        tensor_below = subst (λ (z : ℤ). z <ℤ pos tensors) (sym n.tensor_is) (lt_of _ _ x.tensor);
        operator_from = subst (λ (z : ℤ). pos 0 ≤ℤ z) (sym n.operator_is) (le_of 0 _ (omega arith));
        operator_below = subst (λ (z : ℤ). z <ℤ pos operators) (sym n.operator_is) (lt_of _ _ x.operator);
        outside = λ r. n.operator_is ∙ ap pos (zero x.zero_outside r);
      }
    where
      zero : (natural (word u k 2) ≤ writes) ⊎ (natural (word u k 0) ≡ 0) → (word u k 2 ≡ pos model_input) ⊎ (word u k 2 ≡ pos model_output) → natural (word u k 0) ≡ 0
      zero (inr q) r = q
      zero (inl q) (inl r) = absurd (omega (arith, ap natural r))
      zero (inl q) (inr r) = absurd (omega (arith, ap natural r))

  -- and the other way.
  pub good_of : GoodUse operators tensors u k → good operators tensors (use_at u k) ≡ true
  unfolding good use_at natural
  good_of x =
      let operator = natural_of (word u k 0) x.operator_from in
      let tensor = natural_of (word u k 1) x.tensor_from in
      let role = natural_of (word u k 2) x.role_from in
      let small : natural (word u k 2) ≤ model_output = of_le _ _ (subst (λ (z : ℤ). z ≤ℤ pos 3) role x.role_to) in
      both_hold _ _ (le-leb _ _ small)
      (both_hold _ _ (lt-ltb _ _ (of_lt _ _ (subst (λ (z : ℤ). z <ℤ pos tensors) tensor x.tensor_below)))
      (both_hold _ _ (lt-ltb _ _ (of_lt _ _ (subst (λ (z : ℤ). z <ℤ pos operators) operator x.operator_below)))
      (zero (natural (word u k 2)) role (role_of (natural (word u k 2)) small))))
    where
      zero : (r : ℕ) → word u k 2 ≡ pos r → Role r → leb r writes || eqb (natural (word u k 0)) 0 ≡ true
      zero r e (reading q) = rw q
      zero r e (writing q) = rw q
      zero r e (input q) = rw (q, x.outside (inl (e ∙ ap pos q)))
      zero r e (output q) = rw (q, x.outside (inr (e ∙ ap pos q)))
