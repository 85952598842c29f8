-- The first index at which a test holds. Every 'lowest' and 'least' of the documents is one of these searches.
--     first_in p s n     the least k with s ≤ k < n at which p holds, else n (where s ≤ n)
--     holds_below p n    whether p holds at some k < n
-- A reader believes these by `first_is` and `least_is`, which mention no search. A loop uses `Scan p s n i`: the scan from s has come to i and
-- found nothing; `scan` starts it, `pass` is one more turn, `hit` leaves it early, `out` runs it to the end.
use Prim.Native.Nat.{ℕ, zero, suc, ◌+◌, ◌-◌, ◌<◌, ◌≤◌}
use Rattle.std.specs.Prelude.{Bool, true, false, Option, Some, None, ◌≡◌, ltb}

-- The search from i over the next k indices.
unfoldable pub first_from : (ℕ → Bool) → ℕ → ℕ → ℕ
first_from p i zero = i
first_from p i (suc k) = elim (p i) [ true ↦ i | false ↦ first_from p (i + 1) k ]

-- The first index from s on and below n at which the test holds, else n.
unfoldable pub first_in : (ℕ → Bool) → ℕ → ℕ → ℕ
first_in p s n = first_from p s (n - s)

-- Whether the test holds at some index below n.
unfoldable pub holds_below : (ℕ → Bool) → ℕ → Bool
holds_below p n = ltb (first_in p 0 n) n

-- What the search gives, without a search: no index before it passes, and it passes itself unless it is the end.
pub record IsFirst (p : ℕ → Bool) (s n r : ℕ) : Type 0 where
  pub low : s ≤ r
  pub high : r ≤ n
  pub before : (k : ℕ) → s ≤ k → k < r → p k ≡ false
  pub at : r < n → p r ≡ true

-- The least number that passes a test: it passes, and none below it does.
pub record IsLeast (p : ℕ → Bool) (r : ℕ) : Type 0 where
  pub passes : p r ≡ true
  pub below : (k : ℕ) → k < r → p k ≡ false

-- The scan from s has come to i and found nothing.
pub record Scan (p : ℕ → Bool) (s n i : ℕ) : Type 0 where
  pub here : first_in p i n ≡ first_in p s n

-- What a search gives as an option: the index, or none where it ran to its end. A caller learns of either case by `found_some` and `found_none`.
unfoldable pub found_of : ℕ → ℕ → Option ℕ
found_of r n = elim (ltb r n) [ true ↦ Some r | false ↦ None ]

-- The first index from s on and below n at which the test holds, or none.
abbrev pub found_in : (ℕ → Bool) → ℕ → ℕ → Option ℕ
found_in p s n = found_of (first_in p s n) n
