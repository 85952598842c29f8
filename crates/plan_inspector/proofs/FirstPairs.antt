-- Laws of the definition of specs/FirstPair.antt: how a search ends, and what a caller learns of either case.
use Prim.Native.Nat.{ℕ}
use Rattle.std.proofs.Common.{ap}
use Rattle.std.specs.Prelude.{Bool, true, false, Option, Some, None, ◌≡◌, refl}
use Rattle.bounded.specs.Pair.{pair_below, pair_first, pair_second}
use Rattle.plan_inspector.specs.FirstPair.{first_pair_of}

module _ {A : Type 0} (f : ℕ → A) (c : ℕ → ℕ → Bool) (n : ℕ) where
  -- A pair was found.
  pub pair_found : {a b : ℕ} → (pair_below c n ≡ true) × (a ≡ pair_first c n) × (b ≡ pair_second c n) → Some (f a, f b) ≡ first_pair_of f c n
  unfolding first_pair_of
  pair_found h = rw (h.0, first_pair_of, ← h.1, ← h.2)

  -- There is none.
  pub none_found : pair_below c n ≡ false → None ≡ first_pair_of f c n
  unfolding first_pair_of
  none_found e = rw (e, first_pair_of)

  -- What a pair that was handed back says,
  pub pair_says : (a b : A) → first_pair_of f c n ≡ Some (a, b) → (pair_below c n ≡ true) × (f (pair_first c n) ≡ a) × (f (pair_second c n) ≡ b)
  unfolding first_pair_of
  pair_says a b e = go (pair_below c n) refl
    where
      go : (x : Bool) → pair_below c n ≡ x → (pair_below c n ≡ true) × (f (pair_first c n) ≡ a) × (f (pair_second c n) ≡ b)
      go true p =
          let q : ◌≡◌ {A = Option (A × A)} (Some (f (pair_first c n), f (pair_second c n))) (Some (a, b)) = rw (p, first_pair_of) at e in
          let r : ◌≡◌ {A = A × A} (f (pair_first c n), f (pair_second c n)) (a, b) = cc in
          (p, ap (λ (z : A × A). z.0) r, ap (λ (z : A × A). z.1) r)
      go false p = let q : ◌≡◌ {A = Option (A × A)} None (Some (a, b)) = rw (p, first_pair_of) at e in cc

  -- and what it says that there is none.
  pub nothing_says : first_pair_of f c n ≡ None → pair_below c n ≡ false
  unfolding first_pair_of
  nothing_says e = go (pair_below c n) refl
    where
      go : (x : Bool) → pair_below c n ≡ x → x ≡ false
      go false p = refl
      go true p = let q : ◌≡◌ {A = Option (A × A)} (Some (f (pair_first c n), f (pair_second c n))) None = rw (p, first_pair_of) at e in cc
