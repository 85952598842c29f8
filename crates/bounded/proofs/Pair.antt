-- Laws of the definitions of specs/Pair.antt.
use Prim.Native.Nat.{ℕ, ◌+◌, ◌<◌, ◌≤◌}
use Rattle.std.specs.Prelude.{Bool, false, ◌≡◌}
use Rattle.std.proofs.Math.Bool.{true}
use Rattle.std.proofs.Common.{◌∙◌, subst, arith}
use Rattle.std.proofs.Math.Path.{ap}
use Rattle.std.proofs.Math.Logic.{⊎_elim}
use borrow.Author.Tests.{le-ltb, lt-ltb, ltb-true, ltb-false}
use Rattle.std.proofs.Math.Dec.{ltb}
use Rattle.bounded.proofs.Boolean.{contrary, lt_or_le}
use Rattle.bounded.specs.First.{first_in, holds_below}
use Rattle.bounded.proofs.First.{first_is, first_same, none_holds, none_found, found, holds_same, pass, hit, out}
use Rattle.bounded.specs.Pair.{Inner, IsLeastPair, Outer, has_partner, pair_below, pair_first, pair_second, partner}

module _ (c : ℕ → ℕ → Bool) (n : ℕ) where
  no_partner : (a : ℕ) → a < n → has_partner c n a ≡ false → (b : ℕ) → a < b → b < n → c a b ≡ false
  unfolding partner has_partner
  no_partner a h e b l m = (first_is (c a) (a + 1) n (omega arith)).before b (omega arith) (omega (arith, ltb-false (first_in (c a) (a + 1) n) n e))

  -- No pair is found: none passes.
  pub no_pair : pair_below c n ≡ false → (a b : ℕ) → a < b → b < n → c a b ≡ false
  unfolding pair_below
  no_pair e a b l m = no_partner a (omega arith) (none_holds (has_partner c n) n e a (omega arith)) b l m

  -- None passes: no pair is found.
  pub none_paired : ((a b : ℕ) → a < b → b < n → c a b ≡ false) → pair_below c n ≡ false
  unfolding partner has_partner pair_below
  none_paired f = none_found (has_partner c n) n (λ a h. le-ltb _ _ (go a h))
    where
      go : (a : ℕ) → a < n → n ≤ first_in (c a) (a + 1) n
      go a h =
          let x = first_is (c a) (a + 1) n (omega arith) in
          ⊎_elim (λ l. contrary (x.at l) (f a (first_in (c a) (a + 1) n) (omega (arith, x.low)) l)) (λ l. l) (lt_or_le (first_in (c a) (a + 1) n) n)

  -- A pair is found: it is the least.
  pub least_pair : pair_below c n ≡ true → IsLeastPair c n (pair_first c n) (pair_second c n)
  unfolding pair_below pair_first pair_second partner has_partner
  least_pair e =
      let x = found (has_partner c n) n e in
      let a : ℕ = first_in (has_partner c n) 0 n in
      let b : first_in (c a) (a + 1) n < n = ltb-true _ _ x.1 in
      let y = first_is (c a) (a + 1) n (omega (arith, x.0)) in
      record {
        rising = omega (arith, y.low);
        within = b;
        passes = y.at b;
        first_least = λ i j h l m. no_partner i (omega arith) ((first_is (has_partner c n) 0 n (omega arith)).before i (omega arith) h) j l m;
        second_least = λ j l m. y.before j (omega arith) m;
      }

-- Two tests that agree on all pairs below the bound find the same pair.
module _ (c e : ℕ → ℕ → Bool) (n : ℕ) (f : (a b : ℕ) → a < b → b < n → c a b ≡ e a b) where
  same_partner : (a : ℕ) → has_partner c n a ≡ has_partner e n a
  unfolding partner has_partner
  same_partner a = ap (λ (k : ℕ). ltb k n) (first_same (c a) (e a) (a + 1) n (λ k l m. f a k (omega arith) m))

  pub pair_same : (pair_below c n ≡ pair_below e n) × (pair_first c n ≡ pair_first e n) × (pair_second c n ≡ pair_second e n)
  unfolding pair_below pair_first pair_second partner
  pair_same =
      let q = first_same (has_partner c n) (has_partner e n) 0 n (λ k l m. same_partner k) in (
        holds_same (has_partner c n) (has_partner e n) n (λ k m. same_partner k),
        q,
        ap (λ (a : ℕ). first_in (c a) (a + 1) n) q ∙ first_same (c (first_in (has_partner e n) 0 n)) (e (first_in (has_partner e n) 0 n)) (first_in (has_partner e n) 0 n + 1) n (λ k l m. f _ k (omega arith) m),
      )

module _ (c : ℕ → ℕ → Bool) (n : ℕ) where
  -- The inner scan runs to the end: one more turn of the outer.
  pub inner_out : (a b : ℕ) → a < n → n ≤ b → Inner c n a b → Outer c n (a + 1)
  unfolding partner has_partner
  inner_out a b l m h = pass h.0 l (le-ltb (partner c n a) n (subst (λ (k : ℕ). n ≤ k) (out h.1 m) m))

  -- Both are left at once: this is the pair.
  pub inner_hit : (a b : ℕ) → a < n → b < n → c a b ≡ true → Inner c n a b → (pair_below c n ≡ true) × (a ≡ pair_first c n) × (b ≡ pair_second c n)
  unfolding partner has_partner pair_below pair_first pair_second holds_below
  inner_hit a b l m t h =
      let e : b ≡ first_in (c a) (a + 1) n = hit h.1 m t in
      let k : ltb (first_in (c a) (a + 1) n) n ≡ true = rw (← e) (lt-ltb b n m) in
      let f : a ≡ first_in (has_partner c n) 0 n = hit h.0 l k in
      (rw (← f) (lt-ltb a n l), f, rw (← f) e)

  -- The outer scan runs to the end: there is none.
  pub outer_out : (a : ℕ) → n ≤ a → Outer c n a → pair_below c n ≡ false
  unfolding pair_below holds_below
  outer_out a l h = rw (← out h l) (le-ltb a n l)
