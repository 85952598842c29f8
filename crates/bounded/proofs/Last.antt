-- Laws of the definitions of specs/Last.antt.
use Rattle.std.specs.Prelude.{ℕ, zero, suc, ◌+◌, ◌-◌, ◌<◌, ◌≤◌, max, Bool, true, false, ◌||◌, ◌≡◌, refl}
use Rattle.std.proofs.Common.{⊎_elim, sym, subst, eq-or-lt_of_le, le_of_suc-le-suc, arith}
use Rattle.bounded.proofs.Boolean.{contrary, lt_or_le}
use Rattle.bounded.specs.Last.{IsLast, end_in, last_in}

-- Where some index passes, the search gives the last that does.
pub last_is : (p : ℕ → Bool) (n k : ℕ) → k < n → p k ≡ true → IsLast p n (last_in p n)
unfolding last_in
last_is p zero k l e = absurd (omega arith)
last_is p (suc n) k l e = go (p n) refl (λ m. last_is p n k m e)
  where
    go : (b : Bool) → p n ≡ b → (k < n → IsLast p n (last_in p n)) → IsLast p (suc n) (elim b [ true ↦ n | false ↦ last_in p n ])
    go true q h = record { within = omega arith; passes = q; after = λ j m o. absurd (omega arith) }
    go false q h =
        let x = h (⊎_elim (λ z. contrary e (subst (λ (i : ℕ). p i ≡ false) (sym z) q)) (λ z. z) (eq-or-lt_of_le (le_of_suc-le-suc l))) in
        record {
          within = omega (arith, x.within);
          passes = x.passes;
          after = λ j m o. ⊎_elim (λ z. subst (λ (i : ℕ). p i ≡ false) (sym z) q) (λ z. x.after j m z) (eq-or-lt_of_le (le_of_suc-le-suc o));
        }

-- No index that passes is above the last.
last_highest : {p : ℕ → Bool} {n r : ℕ} → IsLast p n r → (k : ℕ) → k < n → p k ≡ true → k ≤ r
last_highest x k l e = ⊎_elim (λ m. contrary e (x.after k m l)) (λ m. m) (lt_or_le _ k)

-- ---- the end

-- The last index is the one before the end.
pub last_before_end : (p : ℕ → Bool) (n : ℕ) → end_in p n - 1 ≡ last_in p n
unfolding last_in end_in
last_before_end p zero = refl
last_before_end p (suc n) = go (p n) (last_before_end p n)
  where
    go : (b : Bool) → end_in p n - 1 ≡ last_in p n → elim b [ true ↦ suc n | false ↦ end_in p n ] - 1 ≡ elim b [ true ↦ n | false ↦ last_in p n ]
    go true e = omega arith
    go false e = e

-- It is no greater than the bound.
pub end_bound : (p : ℕ → Bool) (n : ℕ) → end_in p n ≤ n
unfolding end_in
end_bound p zero = omega arith
end_bound p (suc n) = go (p n) (end_bound p n)
  where
    go : (b : Bool) → end_in p n ≤ n → elim b [ true ↦ suc n | false ↦ end_in p n ] ≤ suc n
    go true l = omega arith
    go false l = omega arith

-- An index that passes is before it.
pub before_end : (p : ℕ → Bool) (n k : ℕ) → k < n → p k ≡ true → k < end_in p n
unfolding end_in
before_end p zero k l e = absurd (omega arith)
before_end p (suc n) k l e = go (p n) refl (λ m. before_end p n k m e)
  where
    go : (b : Bool) → p n ≡ b → (k < n → k < end_in p n) → k < elim b [ true ↦ suc n | false ↦ end_in p n ]
    go true q h = l
    go false q h = h (⊎_elim (λ z. contrary e (subst (λ (i : ℕ). p i ≡ false) (sym z) q)) (λ z. z) (eq-or-lt_of_le (le_of_suc-le-suc l)))

-- Where no index below the bound passes, it is 0.
pub end_none : (p : ℕ → Bool) (n : ℕ) → ((k : ℕ) → k < n → p k ≡ false) → end_in p n ≡ 0
unfolding end_in
end_none p zero f = refl
end_none p (suc n) f = rw (f n (omega arith), end_in) (end_none p n (λ k l. f k (omega arith)))

-- Where an index passes and none above it does, it is one past that index.
pub end_after : (p : ℕ → Bool) (n r : ℕ) → IsLast p n r → end_in p n ≡ r + 1
end_after p n r x =
    let l = last_is p n r x.within x.passes in
    omega (arith, last_before_end p n, before_end p n r x.within x.passes, last_highest x (last_in p n) l.within l.passes)

-- Two tests that agree below the bound have the same end.
pub end_same : (p q : ℕ → Bool) (n : ℕ) → ((k : ℕ) → k < n → p k ≡ q k) → end_in p n ≡ end_in q n
unfolding end_in
end_same p q zero h = refl
end_same p q (suc n) h = rw (h n (omega arith), end_in) (same (q n) (end_same p q n (λ k l. h k (omega arith))))
  where
    same : (b : Bool) → end_in p n ≡ end_in q n → ◌≡◌ {A = ℕ} (elim b [ true ↦ suc n | false ↦ end_in p n ]) (elim b [ true ↦ suc n | false ↦ end_in q n ])
    same true e = refl
    same false e = e

-- The end where one of two tests holds is the greater of the two ends.
pub end_either : (p q : ℕ → Bool) (n : ℕ) → end_in (λ k. p k || q k) n ≡ max (end_in p n) (end_in q n)
unfolding end_in
end_either p q zero = omega arith
end_either p q (suc n) = go (p n) (q n) (end_either p q n) (end_bound p n) (end_bound q n)
  where
    go : (a b : Bool) → end_in (λ k. p k || q k) n ≡ max (end_in p n) (end_in q n) → end_in p n ≤ n → end_in q n ≤ n
        → ◌≡◌ {A = ℕ} (elim (a || b) [ true ↦ suc n | false ↦ end_in (λ k. p k || q k) n ]) (max (elim a [ true ↦ suc n | false ↦ end_in p n ]) (elim b [ true ↦ suc n | false ↦ end_in q n ]))
    go true true e l m = omega arith
    go true false e l m = omega arith
    go false true e l m = omega arith
    go false false e l m = e
