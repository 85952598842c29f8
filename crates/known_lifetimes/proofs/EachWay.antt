-- What a use that says something adds, by its role.
use Prim.Native.Nat.{ℕ, ◌+◌, min, max}
use mathlib.Core.Bool.{false}
use mathlib.Core.Path.{◌≡◌}
use borrow.Author.Tests.{eq-eqb, ne_eqb}
use Rattle.lifetime_rule.specs.Uses.{model_output}
use Rattle.lifetime_rule.specs.declared.Use.{Use}
use Rattle.known_lifetimes.specs.OneUseMore.{readable_with, says_nothing, lifetime_with}
use Rattle.known_lifetimes.specs.declared.Lifetime.{Lifetime}

module _ (l : Lifetime) (x : Use) (operators : ℕ) (e : says_nothing x ≡ false) where
  pub lifetime_lasts : x.role ≡ model_output → ◌≡◌ {A = Lifetime} (record { first = l.first; end = record { 0 = operators }; readable = l.readable }) (lifetime_with l x operators)
  unfolding lifetime_with
  lifetime_lasts q = rw (e, lifetime_with, eq-eqb x.role model_output q)

  pub lifetime_counts : {f a r : ℕ} → (x.role ≡ model_output → ⊥) → f ≡ min l.first.0 x.operator.0 → a ≡ max l.end.0 (x.operator.0 + 1) → r ≡ readable_with l.readable.0 x
      → ◌≡◌ {A = Lifetime} (record { first = record { 0 = f }; end = record { 0 = a }; readable = record { 0 = r } }) (lifetime_with l x operators)
  unfolding lifetime_with
  lifetime_counts h p q s =
      rw (e, lifetime_with, ne_eqb x.role model_output h) (λ i. record { first = record { 0 = p i }; end = record { 0 = q i }; readable = record { 0 = s i } })
