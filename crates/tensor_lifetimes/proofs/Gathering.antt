-- Gathering the uses one after the other: the array holds what the uses so far say of each tensor.
use Prim.Native.Nat.{ℕ, ◌+◌, ◌<◌, ◌≤◌, zero-le}
use mathlib.Core.List.{List}
use mathlib.Core.Logic.{◌⊎◌, inl, inr}
use mathlib.Core.Path.{◌≡◌, refl, sym, ◌∙◌, ap, subst}
use native.Mathlib.Omega.{arith}
use lib.IntN.{ℤ}
use lib.ListN.{length, set, replicate, length-set, length-replicate, get_or-replicate}
use lib.Seq.{get_or-set_same, get_or-set_other}
use Rattle.bounded.proofs.Boolean.{same_or_not}
use Rattle.bounded.proofs.First.{first_none, holds_none}
use Rattle.lifetime_rule.proofs.GoodUses.{tests}
use Rattle.lifetime_rule.specs.Uses.{greatest_operators, greatest_tensors, count, use_at}
use Rattle.lifetime_rule.specs.declared.Use.{Use}
use Rattle.tensor_lifetimes.specs.Gathered.{named_so_far, output_so_far, readable_so_far, lifetime_so_far, no_lifetime, lifetime_in, GoodList, HoldsLifetimes}
use Rattle.known_lifetimes.specs.OneUseMore.{lifetime_with}
use Rattle.known_lifetimes.specs.declared.Lifetime.{Lifetime}
use Rattle.tensor_lifetimes.proofs.LifetimeEnds.{end_nothing}
use Rattle.tensor_lifetimes.proofs.OneUse.{other_tensor, own_tensor}

-- ---- before any use

-- What the code starts from.
pub unknown : (operators : ℕ) → ◌≡◌ {A = Lifetime} (record { first = record { 0 = operators }; end = record { 0 = 0 }; readable = record { 0 = operators } }) (no_lifetime operators)
unknown operators = refl

-- It is what no use says.
nothing_known : (operators : ℕ) (u : List ℤ) (t : ℕ) → no_lifetime operators ≡ lifetime_so_far operators u 0 t
unfolding lifetime_so_far named_so_far output_so_far readable_so_far
nothing_known operators u t =
    let first = first_none (named_so_far u 0 t) operators (λ m l. holds_none _) in
    let end = end_nothing (output_so_far u 0 t) (named_so_far u 0 t) operators (holds_none _) (λ m. holds_none _) in
    let readable = first_none (readable_so_far u 0 t) operators (λ m l. holds_none _) in
    sym (λ i. record { first = record { 0 = first i }; end = record { 0 = end i }; readable = record { 0 = readable i } })

-- ---- the loop

-- The uses below j are gathered.
pub record Gathered (operators : ℕ) (u : List ℤ) (gathered : List Lifetime) (j : ℕ) : Type 0 where
  pub index : j ≤ count u
  pub long : length gathered ≡ greatest_tensors
  pub each : (t : ℕ) → t < greatest_tensors → lifetime_in gathered t ≡ lifetime_so_far operators u j t

pub gathered_start : (operators : ℕ) (u : List ℤ) {gathered : List Lifetime} → gathered ≡ replicate greatest_tensors (no_lifetime operators) → Gathered operators u gathered 0
gathered_start operators u e =
    record {
      index = zero-le;
      long = ap length e ∙ length-replicate greatest_tensors (no_lifetime operators);
      each = λ t l. ap (λ (xs : List Lifetime). lifetime_in xs t) e ∙ get_or-replicate greatest_tensors t (no_lifetime operators) (no_lifetime 0) l ∙ nothing_known operators u t;
    }

-- The tensor of a use of a good list has its place in the array, and its operator its bound.
pub within_limits : {operators : ℕ} {u : List ℤ} → GoodList operators u → {j : ℕ} {x : Use} → x ≡ use_at u j → j < count u
    → (x.tensor.0 < greatest_tensors) × (x.operator.0 ≤ greatest_operators)
within_limits {operators} {u} g {j} e l =
    let y = tests operators g.tensors (use_at u j) (g.uses_good.each j l) in
    subst (λ (z : Use). (z.tensor.0 < greatest_tensors) × (z.operator.0 ≤ greatest_operators)) (sym e)
    (omega (arith, y.tensor, g.few_tensors), omega (arith, y.operator, g.few_operators))

module _ {operators : ℕ} {u : List ℤ} (g : GoodList operators u) {gathered : List Lifetime} {j : ℕ} (w : Gathered operators u gathered j) where
  -- One use more.
  pub gathered_more : {x : Use} {v : Lifetime} → j < count u → x ≡ use_at u j → v ≡ lifetime_with (lifetime_in gathered x.tensor.0) x operators → Gathered operators u (set gathered x.tensor.0 v) (j + 1)
  gathered_more {x} {v} l e q =
      record {
        index = omega arith;
        long = simp length-set w.long;
        each = λ t m. go t m (same_or_not x.tensor.0 t);
      }
    where
      new : v ≡ lifetime_so_far operators u (j + 1) x.tensor.0
      new =
          q
          ∙ ap (λ (y : Lifetime). lifetime_with y x operators) (w.each x.tensor.0 (within_limits g e l).0)
          ∙ subst (λ (y : Use). lifetime_with (lifetime_so_far operators u j y.tensor.0) y operators ≡ lifetime_so_far operators u (j + 1) y.tensor.0) (sym e) (own_tensor operators g.tensors u j g.few_operators (g.uses_good.each j l))

      go : (t : ℕ) → t < greatest_tensors → (x.tensor.0 ≡ t) ⊎ (x.tensor.0 ≡ t → ⊥) → lifetime_in (set gathered x.tensor.0 v) t ≡ lifetime_so_far operators u (j + 1) t
      go t m (inl d) =
          subst (λ (i : ℕ). lifetime_in (set gathered x.tensor.0 v) i ≡ lifetime_so_far operators u (j + 1) i) d
          (get_or-set_same gathered x.tensor.0 v (no_lifetime 0) (omega (arith, w.long, (within_limits g e l).0)) ∙ new)
      go t m (inr d) =
          get_or-set_other gathered x.tensor.0 t v (no_lifetime 0) (λ z. d (sym z))
          ∙ w.each t m
          ∙ other_tensor operators u j t (λ z. d (ap (λ (y : Use). y.tensor.0) e ∙ z))

-- All are.
pub gathered_done : {operators : ℕ} {u : List ℤ} {gathered : List Lifetime} {j : ℕ} → Gathered operators u gathered j → count u ≤ j → HoldsLifetimes operators u gathered
gathered_done {operators} {u} {gathered} {j} w l =
    let e : j ≡ count u = omega (arith, w.index) in
    record { each = λ t m. w.each t m ∙ ap (λ (n : ℕ). lifetime_so_far operators u n t) e }
