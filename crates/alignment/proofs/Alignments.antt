-- Laws of the definitions of specs/Alignments.antt.
use Rattle.std.specs.Prelude.{◌≡◌, ℕ, zero, suc, ◌+◌, ◌-◌, ◌*◌, ◌/◌, ◌%◌, ◌^◌, ◌<◌, ◌≤◌, true, ◌⊎◌, ◌↔◌, nat_le}
use Rattle.std.proofs.Common.{inl, inr, ⊎_elim, ◌∙◌, leb-true, le-leb}
use Rattle.std.proofs.Math.Path.{ap}
use Rattle.std.proofs.Math.Nat.{div-add-mod', mod-lt, mod-eq_of_lt, mod_self, mul-mod_left, sub-zero, one-le-pow}
use native.Mathlib.Omega.{arith}
use Rattle.bounded.proofs.Boolean.{both, both_hold, lt_or_le}
use Rattle.alignment.proofs.Rounding.{multiples_apart}
use Rattle.alignment.specs.Powers.{is_power_of_two}
use Rattle.alignment.proofs.Powers.{power_says, power_of, power_some}
use Rattle.alignment.specs.Alignments.{Allowed, allowed, loss}

-- What the test says,
pub allowed_says : (g a : ℕ) → allowed g a ≡ true → Allowed g a
unfolding allowed
allowed_says g a e = let x = both (is_power_of_two a) (nat_le a g) e in record { power = power_says a x.0; within = leb-true a g x.1 }

-- and the other way.
pub allowed_of : (g a : ℕ) → Allowed g a → allowed g a ≡ true
unfolding allowed
allowed_of g a p = both_hold _ _ (power_of a p.power) (le-leb _ _ p.within)

-- It is above 0.
pub allowed_some : (g a : ℕ) → Allowed g a → 0 < a
allowed_some g a p = power_some a p.power

-- Number 14: "alignment not 1, 2, 4, 8 or 16".
pub allowed_at_16 : (a : ℕ) → Allowed 16 a ↔ ((a ≡ 1) ⊎ (a ≡ 2) ⊎ (a ≡ 4) ⊎ (a ≡ 8) ⊎ (a ≡ 16))
allowed_at_16 a = (λ p. one_of p.power.exponent p.power.is p.within, of)
  where
    one_of : (k : ℕ) → a ≡ 2 ^ k → a ≤ 16 → (a ≡ 1) ⊎ (a ≡ 2) ⊎ (a ≡ 4) ⊎ (a ≡ 8) ⊎ (a ≡ 16)
    one_of zero e l = inl e
    one_of (suc zero) e l = inr (inl e)
    one_of (suc (suc zero)) e l = inr (inr (inl e))
    one_of (suc (suc (suc zero))) e l = inr (inr (inr (inl e)))
    one_of (suc (suc (suc (suc zero)))) e l = inr (inr (inr (inr e)))
    one_of (suc (suc (suc (suc (suc k))))) e l = absurd (omega (arith, one-le-pow k 2 (omega arith)))

    at : (k : ℕ) → a ≡ 2 ^ k → 2 ^ k ≤ 16 → Allowed 16 a
    at k e l = record { power = record { exponent = k; is = e }; within = omega arith }

    of : (a ≡ 1) ⊎ (a ≡ 2) ⊎ (a ≡ 4) ⊎ (a ≡ 8) ⊎ (a ≡ 16) → Allowed 16 a
    of (inl e) = at 0 e (omega arith)
    of (inr (inl e)) = at 1 e (omega arith)
    of (inr (inr (inl e))) = at 2 e (omega arith)
    of (inr (inr (inr (inl e)))) = at 3 e (omega arith)
    of (inr (inr (inr (inr e)))) = at 4 e (omega arith)

-- ---- the loss

module _ (g start : ℕ) where
  loss_less : 0 < g → loss g start < g
  unfolding loss
  loss_less h = mod-lt (g - start % g) h

  -- Behind what is lost the next multiple starts,
  pub loss_reaches : 0 < g → (start + loss g start) % g ≡ 0
  unfolding loss
  loss_reaches h = go (lt_or_le 0 (start % g))
    where
      go : (0 < start % g) ⊎ (start % g ≤ 0) → (start + (g - start % g) % g) % g ≡ 0
      go (inl l) =
          let m : (g - start % g) % g ≡ g - start % g = mod-eq_of_lt (omega arith) in
          rw m (let e : start + (g - start % g) ≡ (start / g + 1) * g = omega (arith, div-add-mod' start g, mod-lt start h) in rw e (mul-mod_left (start / g + 1) g))
      go (inr l) =
          let z : start % g ≡ 0 = omega arith in
          let m : (g - start % g) % g ≡ 0 = rw (z, sub-zero) (mod_self g) in
          let e : start + (g - start % g) % g ≡ start = omega (arith, m) in
          ap (λ (n : ℕ). n % g) e ∙ z

  -- and losing less would not reach one.
  pub loss_least : 0 < g → (other : ℕ) → (start + other) % g ≡ 0 → loss g start ≤ other
  loss_least h other e =
      ⊎_elim
      (λ x. omega (arith, loss_less h, multiples_apart g (start + other) (start + loss g start) e (loss_reaches h) (omega arith)))
      (λ x. x)
      (lt_or_le other (loss g start))
