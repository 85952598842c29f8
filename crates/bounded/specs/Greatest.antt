-- The greatest of the values of a function below a bound.
--     greatest f n       the greatest of f 0 .. f (n - 1), or 0
-- A reader believes it by `greatest_bound` and `greatest_is_one`. A loop starts by `greatest_none` and turns by `greatest_more`.
use Rattle.std.specs.Prelude.{ℕ, zero, suc, ◌<◌, max, ◌≡◌}

-- The greatest of f 0 .. f (n - 1), or 0.
unfoldable pub greatest : (ℕ → ℕ) → ℕ → ℕ
greatest f zero = 0
greatest f (suc n) = max (greatest f n) (f n)

-- An index at which a value is taken.
pub record Taken (f : ℕ → ℕ) (n v : ℕ) : Type 0 where
  pub index : ℕ
  pub within : index < n
  pub value : f index ≡ v
