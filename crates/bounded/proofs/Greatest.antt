-- Laws of the definitions of specs/Greatest.antt.
use Rattle.std.specs.Prelude.{ℕ, zero, suc, ◌+◌, ◌<◌, ◌≤◌, max, ◌⊎◌, ◌≡◌, refl}
use Rattle.std.proofs.Common.{inl, inr, ⊎_elim, sym, subst, ap₂, eq-or-lt_of_le, le_of_suc-le-suc, add-one, arith}
use Rattle.bounded.proofs.Boolean.{lt_or_le}
use Rattle.bounded.specs.Greatest.{Taken, greatest}

-- No value below the bound is greater.
pub greatest_bound : (f : ℕ → ℕ) (n i : ℕ) → i < n → f i ≤ greatest f n
unfolding greatest
greatest_bound f zero i h = omega arith
greatest_bound f (suc n) i h =
    ⊎_elim
    (λ e. subst (λ (k : ℕ). f k ≤ max (greatest f n) (f n)) (sym e) (omega arith))
    (λ l. let b = greatest_bound f n i l in omega arith)
    (eq-or-lt_of_le (le_of_suc-le-suc h))

-- It is one of the values, or 0.
pub greatest_is_one : (f : ℕ → ℕ) (n : ℕ) → (greatest f n ≡ 0) ⊎ Taken f n (greatest f n)
unfolding greatest
greatest_is_one f zero = inl refl
greatest_is_one f (suc n) = go (lt_or_le (greatest f n) (f n)) (greatest_is_one f n)
  where
    go : (greatest f n < f n) ⊎ (f n ≤ greatest f n) → (greatest f n ≡ 0) ⊎ Taken f n (greatest f n)
        → (max (greatest f n) (f n) ≡ 0) ⊎ Taken f (suc n) (max (greatest f n) (f n))
    go (inl l) x = inr (record { index = n; within = omega arith; value = omega arith })
    go (inr l) (inl e) = inl (omega arith)
    go (inr l) (inr t) = inr (record { index = t.index; within = omega (arith, t.within); value = omega (arith, t.value) })

-- Functions that agree below the bound have the same greatest value.
pub greatest_same : (f g : ℕ → ℕ) (n : ℕ) → ((i : ℕ) → i < n → f i ≡ g i) → greatest f n ≡ greatest g n
unfolding greatest
greatest_same f g zero h = refl
greatest_same f g (suc n) h = ap₂ (λ (x y : ℕ). max x y) (greatest_same f g n (λ i l. h i (omega arith))) (h n (omega arith))

-- A loop's start.
pub greatest_none : (f : ℕ → ℕ) → 0 ≡ greatest f 0
unfolding greatest
greatest_none f = refl

-- A loop's turn.
pub greatest_more : (f : ℕ → ℕ) (n : ℕ) → max (greatest f n) (f n) ≡ greatest f (n + 1)
unfolding greatest
greatest_more f n = rw add-one
