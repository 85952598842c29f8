-- Laws of the definitions of specs/Powers.antt.
use Rattle.std.specs.Prelude.{◌≡◌, ℕ, zero, suc, ◌^◌, ◌<◌, true, nat_eq}
use Rattle.std.proofs.Common.{sym, subst, arith, eq-eqb, eqb-true}
use Rattle.std.proofs.Math.Nat.{one-le-pow, two-pow-succ}
use Rattle.bounded.proofs.First.{found, some_found}
use Rattle.alignment.specs.Powers.{PowerOfTwo, is_power_of_two}

-- An exponent is below its power.
pub exponent_below : (k : ℕ) → k < 2 ^ k
exponent_below zero = omega arith
exponent_below (suc k) = omega (arith, exponent_below k, two-pow-succ k)

-- What the test says,
pub power_says : (n : ℕ) → is_power_of_two n ≡ true → PowerOfTwo n
unfolding is_power_of_two
power_says n e = record { exponent = _; is = sym (eqb-true _ _ (found (λ k. nat_eq (2 ^ k) n) n e).1) }

-- and the other way.
pub power_of : (n : ℕ) → PowerOfTwo n → is_power_of_two n ≡ true
unfolding is_power_of_two
power_of n p =
    some_found (λ k. nat_eq (2 ^ k) n) n p.exponent
    (subst (λ (m : ℕ). p.exponent < m) (sym p.is) (exponent_below p.exponent))
    (eq-eqb _ _ (sym p.is))

-- It is above 0.
pub power_some : (n : ℕ) → PowerOfTwo n → 0 < n
power_some n p = omega (arith, p.is, one-le-pow p.exponent 2 (omega arith))
