-- The first pair of indices of which a test of two holds, as an option.
use Rattle.std.specs.Prelude.{ℕ, Bool, true, false, Option, Some, None}
use Rattle.bounded.specs.Pair.{pair_below, pair_first, pair_second}

-- The pair of the least first index below n and then the least second, by whatever name f gives them, or none.
unfoldable pub first_pair_of : {A : Type 0} → (ℕ → A) → (ℕ → ℕ → Bool) → ℕ → Option (A × A)
first_pair_of f c n = elim (pair_below c n) [ true ↦ Some (f (pair_first c n), f (pair_second c n)) | false ↦ None ]
