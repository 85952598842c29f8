-- `tensor_lifetimes::judge` meets its contract: the lowest tensor never named, then the lowest use that reads too early.
use Rattle.std.specs.Prelude.{ℕ, ◌<◌, ◌≤◌, List, Some, None, ◌≡◌, ℤ}
use Rattle.std.specs.Option.{option_map}
use Rattle.std.proofs.Common.{arith, refl, sym, ◌∙◌, ap}
use Rattle.answer.specs.Refusals.{told}
use Rattle.bounded.specs.First.{first_in, found_in}
use Rattle.bounded.proofs.Found.{found_some, found_none}
use Rattle.known_lifetimes.specs.declared.Lifetime.{Lifetime}
use Rattle.lifetime_rule.proofs.Answers.{name_refused, read_refused, judged_passed}
use Rattle.lifetime_rule.specs.Answers.{EachGood}
use Rattle.lifetime_rule.specs.Lifetimes.{unnamed, too_early}
use Rattle.lifetime_rule.specs.Uses.{greatest_tensors, count}
use Rattle.units.specs.Numbered.{tensor_of}
use Rattle.units.specs.declared.Tensor.{Tensor}
use Rattle.use_rows.proofs.IndexFound.{index_found, none_found}
use Rattle.tensor_lifetimes.specs.Gathered.{HoldsLifetimes, unnamed_in, early_in}
use Rattle.tensor_lifetimes.proofs.Judging.{lowest_unnamed_is, lowest_early_is}
use Rattle.tensor_lifetimes.proofs.judge.Goals as goal

module _ {operators : ℕ} (tensors : ℕ) {u : List ℤ} {gathered : List Lifetime} (h : HoldsLifetimes operators u gathered) (few : tensors ≤ greatest_tensors) where
  -- the tensor that was found is the definitions',
  tensor_found : {tensor : Tensor} → option_map tensor_of (found_in (unnamed_in operators gathered) 0 tensors) ≡ Some tensor
      → (tensor.0 ≡ first_in (unnamed operators u) 0 tensors) × (tensor.0 < tensors)
  tensor_found e =
      let f = found_some tensor_of (first_in (unnamed_in operators gathered) 0 tensors) tensors _ e in
      let is = sym (ap (λ (t : Tensor). t.0) f.1) in
      (is ∙ lowest_unnamed_is h tensors few, omega (arith, is, f.0))

  -- or all are named,
  all_named : option_map tensor_of (found_in (unnamed_in operators gathered) 0 tensors) ≡ None → tensors ≤ first_in (unnamed operators u) 0 tensors
  all_named e = omega (arith, found_none tensor_of (first_in (unnamed_in operators gathered) 0 tensors) tensors e, lowest_unnamed_is h tensors few)

  module _ (g : EachGood operators tensors u) where
    -- and so are the use that was found,
    use_found : (k : ℕ) → found_in (early_in u gathered) 0 (count u) ≡ Some k → (k ≡ first_in (too_early u) 0 (count u)) × (k < count u)
    use_found k e =
        let f = index_found (early_in u gathered) (count u) k e in
        (sym f.1 ∙ lowest_early_is h tensors few g, omega (arith, f.0, f.1))

    -- or none.
    none_early : found_in (early_in u gathered) 0 (count u) ≡ None → count u ≤ first_in (too_early u) 0 (count u)
    none_early e = omega (arith, none_found (early_in u gathered) (count u) e, lowest_early_is h tensors few g)

pub overflow_cast-tensor : goal.overflow_cast-tensor
overflow_cast-tensor c =
    let r = c.requires in
    let f = tensor_found c.args.list.now.tensors r.holds_lifetimes r.tensors_le_greatest_tensors.0 (sym c.lowest_unnamed.ensures ∙ c.in-Some.is) in
    omega (arith, f.1, r.tensors_le_greatest_tensors.0)

pub returns-in-Some : goal.returns-in-Some
returns-in-Some c =
    let r = c.requires in
    let f = tensor_found c.args.list.now.tensors r.holds_lifetimes r.tensors_le_greatest_tensors.0 (sym c.lowest_unnamed.ensures ∙ c.in-Some.is) in
    ap told c.at.ensures ∙ name_refused _ _ _ f.0 f.1

pub overflow_cast-row : goal.overflow_cast-row
overflow_cast-row c =
    let r = c.requires in
    let f = use_found c.args.list.now.tensors r.holds_lifetimes r.tensors_le_greatest_tensors.0 r.each_good _ (sym c.lowest_early.ensures ∙ c.in-Some-lowest_early.is) in
    omega (arith, f.1, r.tensors_le_greatest_tensors.1)

pub returns-in-Some-lowest_early : goal.returns-in-Some-lowest_early
returns-in-Some-lowest_early c =
    let r = c.requires in
    let all = all_named c.args.list.now.tensors r.holds_lifetimes r.tensors_le_greatest_tensors.0 (sym c.lowest_unnamed.ensures ∙ c.in_default.is) in
    let f = use_found c.args.list.now.tensors r.holds_lifetimes r.tensors_le_greatest_tensors.0 r.each_good _ (sym c.lowest_early.ensures ∙ c.in-Some-lowest_early.is) in
    ap told c.at-in-Some-lowest_early.ensures ∙ read_refused _ _ _ refl f.0 all f.1

pub returns : goal.returns
returns c =
    let r = c.requires in
    let all = all_named c.args.list.now.tensors r.holds_lifetimes r.tensors_le_greatest_tensors.0 (sym c.lowest_unnamed.ensures ∙ c.in_default.is) in
    let none = none_early c.args.list.now.tensors r.holds_lifetimes r.tensors_le_greatest_tensors.0 r.each_good (sym c.lowest_early.ensures ∙ c.in_default-lowest_early.is) in
    judged_passed _ _ _ refl refl all none
