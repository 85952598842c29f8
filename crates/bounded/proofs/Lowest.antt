-- Laws of the definitions of specs/Lowest.antt.
use Rattle.std.specs.Prelude.{ℕ, ◌<◌, ◌≤◌, Bool, true, ◌⊎◌, ◌≡◌}
use Rattle.std.proofs.Common.{inl, inr, arith}
use Rattle.bounded.proofs.Boolean.{contrary, lt_or_le}
use Rattle.bounded.specs.First.{first_in, holds_below}
use Rattle.bounded.proofs.First.{first_is, found}
use Rattle.bounded.specs.Last.{last_in}
use Rattle.bounded.proofs.Last.{last_is}
use Rattle.bounded.specs.Pair.{pair_below, pair_first, pair_second}
use Rattle.bounded.proofs.Pair.{least_pair}
use Rattle.bounded.specs.Lowest.{Highest, LeastPair, Lowest}

-- What the search found is the lowest of which the test's meaning is so.
pub lowest_of : {So : ℕ → Type 0} (p : ℕ → Bool) (n : ℕ) → ((k : ℕ) → k < n → p k ≡ true → So k) → ((k : ℕ) → k < n → So k → p k ≡ true)
    → holds_below p n ≡ true → Lowest So n (first_in p 0 n)
lowest_of p n says of e =
    let x = found p n e in
    record {
      within = x.0;
      here = says _ x.0 x.1;
      below = λ k l s. contrary (of k (omega (arith, x.0)) s) ((first_is p 0 n (omega arith)).before k (omega arith) l);
    }

-- Where it is so of some index, the last index that passes is the highest of which it is so.
pub highest_of : {So : ℕ → Type 0} (p : ℕ → Bool) (n : ℕ) → ((k : ℕ) → p k ≡ true → So k) → ((k : ℕ) → So k → p k ≡ true) → holds_below p n ≡ true
    → Highest So n (last_in p n)
highest_of p n says of e =
    let x = found p n e in
    let l = last_is p n _ x.0 x.1 in
    record { within = l.within; here = says _ l.passes; above = λ k h m s. contrary (of k s) (l.after k h m) }

-- The pair that the search found is the least of which the test's meaning is so.
pub least_of : {So : ℕ → ℕ → Type 0} (c : ℕ → ℕ → Bool) (n : ℕ) → ((a b : ℕ) → a < b → b < n → c a b ≡ true → So a b)
    → ((a b : ℕ) → So a b → (a < b) × (b < n) × (c a b ≡ true)) → pair_below c n ≡ true → LeastPair So (pair_first c n) (pair_second c n)
least_of c n says of e =
    let p = least_pair c n e in
    record {
      here = says _ _ p.rising p.within p.passes;
      first_least = λ i j s. let x = of i j s in not_lower (lt_or_le i _) (λ l. contrary x.2 (p.first_least i j l x.0 x.1));
      second_least = λ j s. let x = of _ j s in not_lower (lt_or_le j _) (λ l. contrary x.2 (p.second_least j x.0 l));
    }
  where
    not_lower : {i a : ℕ} → (i < a) ⊎ (a ≤ i) → (i < a → ⊥) → a ≤ i
    not_lower (inl l) f = absurd (f l)
    not_lower (inr l) f = l
