-- The last index below a bound at which a test holds: the documents' 'highest'.
--     last_in p n        the greatest k < n at which p holds, else 0
--     end_in p n          one past it; 0 where p holds nowhere
-- A reader believes them by `last_is`, which mentions no search, and `last_before_end`. A loop keeps the end, which tells none from index 0.
use Rattle.std.specs.Prelude.{ℕ, zero, suc, ◌<◌, Bool, true, false, ◌≡◌}

-- The last index below n at which the test holds, else 0.
unfoldable pub last_in : (ℕ → Bool) → ℕ → ℕ
last_in p zero = 0
last_in p (suc n) = elim (p n) [ true ↦ n | false ↦ last_in p n ]

-- One past it, else 0.
unfoldable pub end_in : (ℕ → Bool) → ℕ → ℕ
end_in p zero = 0
end_in p (suc n) = elim (p n) [ true ↦ suc n | false ↦ end_in p n ]

-- Index r is below n, it passes, and no index above it and below n does.
pub record IsLast (p : ℕ → Bool) (n r : ℕ) : Type 0 where
  pub within : r < n
  pub passes : p r ≡ true
  pub after : (k : ℕ) → r < k → k < n → p k ≡ false
