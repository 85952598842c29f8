-- Sums over the entries of a list: the library's `sum`, of what each entry counts.
--     sum _+_ 0 (map f xs)    the sum of f over the entries of xs
-- A loop over the entries turns by `sum_more`; d is what stands past the end, where no index of these laws reaches.
use Prim.Native.Nat.{ℕ, zero, suc, ◌+◌, ◌<◌, ◌≤◌}
use mathlib.Core.List.{List, [], ◌∷◌, map, sum}
use Rattle.std.specs.Prelude.{◌≡◌, length, get_or, take, set}
use Rattle.std.proofs.Common.{le_of_suc-le-suc, add-one}
use native.Mathlib.Omega.{arith}

module _ {A : Type 0} (f : A → ℕ) (d : A) where
  more : (xs : List A) (k : ℕ) → k < length xs → sum ◌+◌ 0 (map f (take (suc k) xs)) ≡ sum ◌+◌ 0 (map f (take k xs)) + f (get_or xs k d)
  unfolding sum
  more [] k l = absurd (omega arith)
  more (x ∷ xs) zero l = omega arith
  more (x ∷ xs) (suc k) l = omega (arith, more xs k (le_of_suc-le-suc l))

  -- One entry more.
  pub sum_more : (xs : List A) (k : ℕ) → k < length xs → sum ◌+◌ 0 (map f (take k xs)) + f (get_or xs k d) ≡ sum ◌+◌ 0 (map f (take (k + 1) xs))
  sum_more xs k l = rw (add-one k) (omega (arith, more xs k l))

  -- An entry replaced: what it counted goes, what the new one counts comes.
  pub sum_set : (xs : List A) (k : ℕ) (x : A) → k < length xs → sum ◌+◌ 0 (map f (set xs k x)) + f (get_or xs k d) ≡ sum ◌+◌ 0 (map f xs) + f x
  unfolding sum
  sum_set [] k y l = absurd (omega arith)
  sum_set (x ∷ xs) zero y l = omega arith
  sum_set (x ∷ xs) (suc k) y l = omega (arith, sum_set xs k y (le_of_suc-le-suc l))

  -- No entry counts more than all.
  pub entry_within : (xs : List A) (k : ℕ) → k < length xs → f (get_or xs k d) ≤ sum ◌+◌ 0 (map f xs)
  unfolding sum
  entry_within [] k l = absurd (omega arith)
  entry_within (x ∷ xs) zero l = omega arith
  entry_within (x ∷ xs) (suc k) l = omega (arith, entry_within xs k (le_of_suc-le-suc l))
