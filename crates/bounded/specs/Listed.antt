-- The list of a function's values at the indices from k on.
--     list_from at k m    at k, at (k + 1) .. at (k + m - 1)
-- A reader believes it by `from_length` and `from_at`. What replaced the first entries of a list is such a list: `replaced_front`.
use Prim.Native.Nat.{ℕ, zero, suc}
use Rattle.std.specs.Prelude.{List, [], ◌∷◌}

-- The entries number k to k + m - 1 of a table that is a function of the index.
unfoldable pub list_from : {A : Type 0} → (ℕ → A) → ℕ → ℕ → List A
list_from at k zero = []
list_from at k (suc m) = at k ∷ list_from at (suc k) m
