-- Laws of the definitions of specs/GoodAccesses.antt.
use Rattle.std.specs.Prelude.{ℕ, ◌≤◌, true, List, ◌≡◌, ℤ}
use borrow.Author.Tests.{ltb-true, leb-true, lt-ltb, le-leb}
use Rattle.bounded.proofs.Boolean.{both, both_hold}
use Rattle.access_rule.specs.Accesses.{access, moment_before, reaches, good}
use Rattle.access_rule.specs.declared.Access.{Access}
use Rattle.access_rule.specs.GoodAccesses.{Reaches}

module _ (t : List ℤ) (a : Access) where
  pub reaches_says : reaches t a ≡ true → Reaches t a
  unfolding reaches
  reaches_says e =
      let n = both _ _ e in
      let l = both _ _ n.1 in
      let m = both _ _ l.0 in
      let i = both _ _ l.1 in
      record { named = ltb-true _ _ n.0; begun = leb-true _ _ m.0; lasting = leb-true _ _ m.1; inside = ltb-true _ _ i.0; value = i.1 }

  pub reaches_of : Reaches t a → reaches t a ≡ true
  unfolding reaches
  reaches_of r =
      both_hold _ _ (lt-ltb _ _ r.named)
      (both_hold _ _ (both_hold _ _ (le-leb _ _ r.begun) (le-leb _ _ r.lasting)) (both_hold _ _ (lt-ltb _ _ r.inside) r.value))

module _ (t s : List ℤ) (k : ℕ) where
  -- A good touch is not before the one in front of it, and reaches a byte.
  pub good_says : good t s k ≡ true → (moment_before s k ≤ (access s k).moment.0) × Reaches t (access s k)
  unfolding good
  good_says e = let x = both _ _ e in (leb-true _ _ x.0, reaches_says t (access s k) x.1)

  pub good_of : moment_before s k ≤ (access s k).moment.0 → Reaches t (access s k) → good t s k ≡ true
  unfolding good
  good_of l r = both_hold _ _ (le-leb _ _ l) (reaches_of t (access s k) r)
