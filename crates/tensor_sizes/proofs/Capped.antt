-- Counting up to a cap: the code counts the elements up to one more than the greatest size, so that no product wraps. This decides the same as the whole
-- count, a later dimension of 0 included.
use Rattle.std.specs.Prelude.{ℕ, zero, suc, ◌+◌, ◌*◌, ◌<◌, ◌≤◌, min, ◌≡◌, ltb}
use Rattle.std.proofs.Common.{⊎_elim, mul-le-mul_left, arith, lt-ltb, ltb-true}
use Rattle.bounded.proofs.Boolean.{lt_or_le, same_test}

-- So many, each of one at least, are as many at least.
no_fewer : (e b : ℕ) → 0 < b → e ≤ e * b
no_fewer e b some = omega (arith, mul-le-mul_left e some)

-- A count that stops at the cap goes on as the whole count does.
pub capped_more : (cap e d : ℕ) → min (min e cap * d) cap ≡ min (e * d) cap
capped_more cap e zero = omega arith
capped_more cap e (suc d) =
    ⊎_elim (λ (l : e < cap). let q : min e cap ≡ e = omega arith in rw q) (λ (l : cap ≤ e). omega (arith, no_fewer (min e cap) (suc d) (omega arith), no_fewer e (suc d) (omega arith))) (lt_or_le e cap)

module _ (high e b : ℕ) (some : 0 < b) where
  passes : high < min e (high + 1) * b → high < e * b
  passes h = ⊎_elim (λ (l : e < high + 1). let q : min e (high + 1) ≡ e = omega arith in rw q at h) (λ (l : high + 1 ≤ e). omega (arith, no_fewer e b some)) (lt_or_le e (high + 1))

  -- The count that stops one above a limit is the whole count where it does not pass it,
  pub capped_is : min e (high + 1) * b ≤ high → min e (high + 1) * b ≡ e * b
  capped_is h = let q : min e (high + 1) ≡ e = omega (arith, no_fewer (min e (high + 1)) b some) in rw q

  -- and passes it exactly where the whole count does.
  pub capped_test : ltb high (min e (high + 1) * b) ≡ ltb high (e * b)
  capped_test =
      same_test _ _ (λ t. lt-ltb _ _ (passes (ltb-true _ _ t)))
      (λ t. lt-ltb _ _ (⊎_elim (λ l. l) (λ l. absurd (omega (arith, capped_is l, ltb-true high (e * b) t))) (lt_or_le high (min e (high + 1) * b))))
