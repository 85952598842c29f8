-- Laws of the definitions of specs/First.antt.
use Prim.Native.Nat.{ℕ, zero, suc, ◌+◌, ◌-◌, ◌<◌, ◌≤◌, min, zero-le}
use Rattle.std.specs.Prelude.{Bool, true, false, ◌||◌, ◌⊎◌, ◌≡◌}
use Rattle.std.proofs.Common.{inl, inr, ⊎_elim, sym, ◌∙◌, eq-or-lt_of_le, not-le_of_lt, le_antisymm}
use Rattle.std.proofs.Math.Path.{refl, subst}
use native.Mathlib.Omega.{arith}
use borrow.Author.Tests.{le-ltb, ltb-true, ltb-false}
use Rattle.bounded.proofs.Boolean.{lt_or_le, contrary, either, neither, neither_holds, refuted, same_test}
use Rattle.bounded.specs.First.{IsFirst, IsLeast, Scan, first_from, first_in, holds_below}

-- ---- the search is what it says

module _ (p : ℕ → Bool) where
  step_is : (s n r : ℕ) (b : Bool) → p s ≡ b → s < n → IsFirst p (s + 1) n r → IsFirst p s n (elim b [ true ↦ s | false ↦ r ])
  step_is s n r true e l h =
      record { low = omega arith; high = omega arith; before = λ k m q. absurd (not-le_of_lt q m); at = λ q. e }
  step_is s n r false e l h =
      record {
        low = omega arith;
        high = h.high;
        before =
            λ k m q.
            ⊎_elim (λ d. subst (λ (i : ℕ). p i ≡ false) d e) (λ d. h.before k (omega arith) q) (eq-or-lt_of_le m);
        at = h.at;
      }

  from_is : (d s : ℕ) → IsFirst p s (s + d) (first_from p s d)
  unfolding first_from
  from_is zero s =
      record { low = omega arith; high = omega arith; before = λ k m q. absurd (not-le_of_lt q m); at = λ q. absurd (not-le_of_lt q (omega arith)) }
  from_is (suc d) s =
      step_is s (s + suc d) (first_from p (s + 1) d) (p s) refl (omega arith)
      (subst (λ (n : ℕ). IsFirst p (s + 1) n (first_from p (s + 1) d)) (omega arith) (from_is d (s + 1)))

  -- The search gives the first index from s on and below n that passes, else n.
  pub first_is : (s n : ℕ) → s ≤ n → IsFirst p s n (first_in p s n)
  unfolding first_in
  first_is s n l = subst (λ (m : ℕ). IsFirst p s m (first_from p s (n - s))) (omega arith) (from_is (n - s) s)

  -- Where the bound itself passes, the search gives the least number that does.
  pub least_is : (n : ℕ) → p n ≡ true → IsLeast p (first_in p 0 n)
  least_is n e = let f = first_is 0 n zero-le in record {
    passes = ⊎_elim f.at (λ l. let q : n ≡ first_in p 0 n = omega (arith, f.high) in subst (λ (k : ℕ). p k ≡ true) q e) (lt_or_le (first_in p 0 n) n);
    below = λ k l. f.before k zero-le l;
  }

  -- Only one number is least.
  pub one_least : (r q : ℕ) → IsLeast p r → IsLeast p q → r ≡ q
  one_least r q x y = le_antisymm (no_later r q x y) (no_later q r y x)
    where
      no_later : (r q : ℕ) → IsLeast p r → IsLeast p q → r ≤ q
      no_later r q x y = ⊎_elim (λ l. contrary y.passes (x.below q l)) (λ l. l) (lt_or_le q r)

  -- Only one index is first.
  pub one_first : (s n r : ℕ) → IsFirst p s n r → first_in p s n ≡ r
  one_first s n r x = let f = first_is s n (omega (arith, x.low, x.high)) in le_antisymm (no_later (first_in p s n) r f x) (no_later r (first_in p s n) x f)
    where
      no_later : (a b : ℕ) → IsFirst p s n a → IsFirst p s n b → a ≤ b
      no_later a b f g = ⊎_elim (λ l. contrary (g.at (omega (arith, f.high))) (f.before b g.low l)) (λ l. l) (lt_or_le b a)

-- Where no index below the bound passes, the search gives the bound.
pub first_none : (p : ℕ → Bool) (n : ℕ) → ((k : ℕ) → k < n → p k ≡ false) → first_in p 0 n ≡ n
first_none p n f = one_first p 0 n n record { low = zero-le; high = omega arith; before = λ k m l. f k l; at = λ l. absurd (omega arith) }

-- The first index at which one of two tests holds is the lower of the two first.
pub first_either : (p q : ℕ → Bool) (n : ℕ) → first_in (λ k. p k || q k) 0 n ≡ min (first_in p 0 n) (first_in q 0 n)
first_either p q n =
    one_first (λ k. p k || q k) 0 n _
    record {
      low = omega arith;
      high = omega (arith, f.high);
      before = λ k l m. neither_holds (p k) (q k) (f.before k l (omega arith)) (g.before k l (omega arith));
      at = λ l. refuted _ (λ e. none l (neither (p (min (first_in p 0 n) (first_in q 0 n))) (q (min (first_in p 0 n) (first_in q 0 n))) e) (lt_or_le (first_in q 0 n) (first_in p 0 n)));
    }
  where
    f : IsFirst p 0 n (first_in p 0 n)
    f = first_is p 0 n zero-le

    g : IsFirst q 0 n (first_in q 0 n)
    g = first_is q 0 n zero-le

    none : min (first_in p 0 n) (first_in q 0 n) < n → (p (min (first_in p 0 n) (first_in q 0 n)) ≡ false) × (q (min (first_in p 0 n) (first_in q 0 n)) ≡ false)
        → (first_in q 0 n < first_in p 0 n) ⊎ (first_in p 0 n ≤ first_in q 0 n) → ⊥
    none l e (inl m) =
        let z : min (first_in p 0 n) (first_in q 0 n) ≡ first_in q 0 n = omega arith in
        contrary (g.at (omega arith)) (subst (λ (k : ℕ). q k ≡ false) z e.1)
    none l e (inr m) =
        let z : min (first_in p 0 n) (first_in q 0 n) ≡ first_in p 0 n = omega arith in
        contrary (f.at (omega arith)) (subst (λ (k : ℕ). p k ≡ false) z e.0)

-- ---- whether there is one

module _ (p : ℕ → Bool) (n : ℕ) where
  -- Nothing is found: the test holds nowhere.
  pub none_holds : holds_below p n ≡ false → (k : ℕ) → k < n → p k ≡ false
  unfolding holds_below
  none_holds e k h = (first_is p 0 n zero-le).before k zero-le (omega (arith, ltb-false (first_in p 0 n) n e))

  -- The test holds nowhere: nothing is found.
  pub none_found : ((k : ℕ) → k < n → p k ≡ false) → holds_below p n ≡ false
  unfolding holds_below
  none_found f =
      le-ltb _ _
      (⊎_elim (λ l. contrary ((first_is p 0 n zero-le).at l) (f (first_in p 0 n) l)) (λ l. l) (lt_or_le (first_in p 0 n) n))

  -- Something is found: the first index is below the bound and passes.
  pub found : holds_below p n ≡ true → (first_in p 0 n < n) × (p (first_in p 0 n) ≡ true)
  unfolding holds_below
  found e = let l : first_in p 0 n < n = ltb-true _ _ e in (l, (first_is p 0 n zero-le).at l)

  -- An index that passes: something is found.
  pub some_found : (k : ℕ) → k < n → p k ≡ true → holds_below p n ≡ true
  some_found k l e = refuted _ (λ q. contrary e (none_holds q k l))

-- Below 0 the test holds nowhere.
pub holds_none : (p : ℕ → Bool) → holds_below p 0 ≡ false
holds_none p = none_found p 0 (λ k l. absurd (omega arith))

-- One index more.
pub holds_more : (p : ℕ → Bool) (n : ℕ) → holds_below p (n + 1) ≡ holds_below p n || p n
holds_more p n = same_test _ _ down (λ e. up (either (holds_below p n) (p n) e))
  where
    down : holds_below p (n + 1) ≡ true → holds_below p n || p n ≡ true
    down e =
        refuted _ (λ f.
        let none = neither (holds_below p n) (p n) f in
        let x = found p (n + 1) e in
        ⊎_elim (λ l. contrary x.1 (none_holds p n none.0 _ l)) (λ l. let q : n ≡ first_in p 0 (n + 1) = omega (arith, x.0) in contrary x.1 (subst (λ (k : ℕ). p k ≡ false) q none.1))
        (lt_or_le (first_in p 0 (n + 1)) n))

    up : (holds_below p n ≡ true) ⊎ (p n ≡ true) → holds_below p (n + 1) ≡ true
    up (inl e) = let x = found p n e in some_found p (n + 1) _ (omega (arith, x.0)) x.1
    up (inr e) = some_found p (n + 1) n (omega arith) e

-- Two tests that agree below the bound are found to hold alike.
pub holds_same : (p q : ℕ → Bool) (n : ℕ) → ((k : ℕ) → k < n → p k ≡ q k) → holds_below p n ≡ holds_below q n
holds_same p q n f = same_test _ _ (one p q f) (one q p (λ k l. sym (f k l)))
  where
    one : (p q : ℕ → Bool) → ((k : ℕ) → k < n → p k ≡ q k) → holds_below p n ≡ true → holds_below q n ≡ true
    one p q f e = let x = found p n e in some_found q n (first_in p 0 n) x.0 (sym (f (first_in p 0 n) x.0) ∙ x.1)

-- Two tests that agree from s on and below the bound have the same first index.
pub first_same : (p q : ℕ → Bool) (s n : ℕ) → ((k : ℕ) → s ≤ k → k < n → p k ≡ q k) → first_in p s n ≡ first_in q s n
unfolding first_in first_from
first_same p q s n f = go (n - s) s (λ k l m. f k l (omega arith))
  where
    go : (d i : ℕ) → ((k : ℕ) → i ≤ k → k < i + d → p k ≡ q k) → first_from p i d ≡ first_from q i d
    go zero i h = refl
    go (suc d) i h = rw (h i (omega arith) (omega arith), first_from) (same (q i) (go d (i + 1) (λ k l m. h k (omega arith) (omega arith))))
      where
        same : (b : Bool) → first_from p (i + 1) d ≡ first_from q (i + 1) d → ◌≡◌ {A = ℕ} (elim b [ true ↦ i | false ↦ first_from p (i + 1) d ]) (elim b [ true ↦ i | false ↦ first_from q (i + 1) d ])
        same true e = refl
        same false e = e

-- ---- for loops

module _ (p : ℕ → Bool) (i n : ℕ) where
  one_more : i < n → n - i ≡ suc (n - (i + 1))
  one_more h = omega arith

  first_end : n ≤ i → first_in p i n ≡ i
  unfolding first_in first_from
  first_end h = let e : n - i ≡ 0 = omega arith in rw e

  first_step : i < n → p i ≡ false → first_in p i n ≡ first_in p (i + 1) n
  unfolding first_in first_from
  first_step h e = rw (one_more h, first_from, e)

  first_hit : i < n → p i ≡ true → first_in p i n ≡ i
  unfolding first_in first_from
  first_hit h e = rw (one_more h, first_from, e)

-- It starts at s.
pub scan : (p : ℕ → Bool) (s n : ℕ) → Scan p s n s
scan p s n = record { here = refl }

module _ {p : ℕ → Bool} {s n i : ℕ} (h : Scan p s n i) where
  -- One more turn.
  pub pass : i < n → p i ≡ false → Scan p s n (i + 1)
  pass l e = record { here = sym (first_step p i n l e) ∙ h.here }

  -- Left early: this index is the first.
  pub hit : i < n → p i ≡ true → i ≡ first_in p s n
  hit l e = sym (first_hit p i n l e) ∙ h.here

  -- Run to the end.
  pub out : n ≤ i → i ≡ first_in p s n
  out l = sym (first_end p i n l) ∙ h.here
