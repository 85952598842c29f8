-- A number is a power of two exactly when one of its bits is set.
use Rattle.std.proofs.Common.{◌≡◌, ℕ, zero, suc, ◌+◌, ◌/◌, ◌%◌, ◌^◌, ◌<◌, ◌≤◌, ◌&&◌, eqb, leb, ◌⊎◌, ap, inl, inr, arith, eq-eqb, eqb-true, count_ones}
use Rattle.std.proofs.lemmas.Nat.{zero_from_ones, ones_le_self}
use native.Mathlib.Nat.{two-pow-succ}
use lib.Count.{ones_step, ones-ones}
use Rattle.alignment.specs.Alignments.{allowed}
use Rattle.alignment.specs.Powers.{PowerOfTwo}
use Rattle.alignment.proofs.Powers.{power_says, power_of}
use Rattle.bounded.proofs.Boolean.{lt_or_le, same_test}

one_bit : (k : ℕ) → count_ones (2 ^ k) ≡ 1
one_bit zero = ones-ones 1
one_bit (suc k) =
    let half : 2 ^ suc k / 2 ≡ 2 ^ k = omega (arith, two-pow-succ k) in
    let step : count_ones (2 ^ suc k) ≡ 2 ^ suc k % 2 + count_ones (2 ^ k) = rw half at (ones_step (2 ^ suc k)) in
    omega (arith, step, one_bit k, two-pow-succ k)

is_power : (bound n : ℕ) → n ≤ bound → count_ones n ≡ 1 → PowerOfTwo n
is_power zero n l e = absurd (omega (arith, ones_le_self n))
is_power (suc bound) n l e = go (lt_or_le 0 (n % 2)) (is_power bound (n / 2))
  where
    go : (0 < n % 2) ⊎ (n % 2 ≤ 0) → (n / 2 ≤ bound → count_ones (n / 2) ≡ 1 → PowerOfTwo (n / 2)) → PowerOfTwo n
    go (inl odd) k = record { exponent = 0; is = omega (arith, zero_from_ones (n / 2) (omega (arith, ones_step n))) }
    go (inr even) k =
        let p = k (omega arith) (omega (arith, ones_step n)) in
        record { exponent = suc p.exponent; is = omega (arith, p.is, two-pow-succ p.exponent) }

-- The test by bits is the definition's.
pub allowed_by_bits : (g a : ℕ) → eqb (count_ones a) 1 && leb a g ≡ allowed g a
unfolding allowed
allowed_by_bits g a =
    ap (λ b. b && leb a g)
    (same_test _ _
    (λ e. power_of a (is_power a a (omega arith) (eqb-true _ _ e)))
    (λ e. eq-eqb _ _ (let p = power_says a e in rw p.is (one_bit p.exponent))))
