-- Tests and what they say: a conjunction taken apart, two tests that say the same, a number below another or not.
-- The kit's own laws of tests (borrow.Author.Tests) turn a test of numbers into an order of numbers and back; these are what it lacks.
use Rattle.std.specs.Prelude.{ℕ, ◌<◌, ◌≤◌, Bool, true, false, ◌&&◌, ◌||◌, ◌⊎◌, ◌≡◌, refl, eqb}
use Rattle.std.proofs.Common.{inl, inr, sym, arith, eqb-true}
use Rattle.std.proofs.Math.Decide.{dec_lt}
use Rattle.std.proofs.lemmas.Bool.{eqb-false}

-- One number is below another, or it is not.
pub lt_or_le : (a b : ℕ) → (a < b) ⊎ (b ≤ a)
lt_or_le a b = go (dec_lt a b)
  where
    go : Dec (a < b) → (a < b) ⊎ (b ≤ a)
    go (yes h) = inl h
    go (no f) = inr (omega arith)

-- True is not false, at any conclusion.
pub contrary {ℓ} : {A : Type ℓ} {x : Bool} → x ≡ true → x ≡ false → A
contrary p q = absurd (let z : ◌≡◌ {A = ℕ} 0 1 = cc in omega arith)

-- The two halves of a conjunction that holds.
pub both : (x y : Bool) → x && y ≡ true → (x ≡ true) × (y ≡ true)
both true y e = (refl, e)
both false y e = contrary e refl

-- A conjunction of what holds.
pub both_hold : (x y : Bool) → x ≡ true → y ≡ true → x && y ≡ true
both_hold true y p q = q
both_hold false y p q = p

-- A disjunction that holds has a half that does.
pub either : (x y : Bool) → x || y ≡ true → (x ≡ true) ⊎ (y ≡ true)
either true y e = inl refl
either false y e = inr e

-- A disjunction that fails has two halves that fail,
pub neither : (x y : Bool) → x || y ≡ false → (x ≡ false) × (y ≡ false)
neither true y e = contrary refl e
neither false y e = (refl, e)

-- and the other way.
pub neither_holds : (x y : Bool) → x ≡ false → y ≡ false → x || y ≡ false
neither_holds true y p q = p
neither_holds false y p q = q

-- A test that is refuted by what its failing says holds.
pub refuted : (x : Bool) → (x ≡ false → ⊥) → x ≡ true
refuted true f = refl
refuted false f = absurd (f refl)

-- Two tests of which each implies the other are equal.
pub same_test : (x y : Bool) → (x ≡ true → y ≡ true) → (y ≡ true → x ≡ true) → x ≡ y
same_test true y f g = sym (f refl)
same_test false true f g = g refl
same_test false false f g = refl

-- Two numbers are the same or not.
pub same_or_not : (a b : ℕ) → (a ≡ b) ⊎ (a ≡ b → ⊥)
same_or_not a b = go (eqb a b) refl
  where
    go : (x : Bool) → eqb a b ≡ x → (a ≡ b) ⊎ (a ≡ b → ⊥)
    go true e = inl (eqb-true a b e)
    go false e = inr (eqb-false a b e)
