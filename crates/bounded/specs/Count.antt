-- How many indices below a bound pass a test.
--     count p n          the number of k < n at which p holds
-- A loop starts by `count_none` and turns by `count_yes` and `count_no`.
use Rattle.std.specs.Prelude.{ℕ, zero, suc, ◌+◌, Bool, true, false}

-- One where the test holds, else nothing.
unfoldable pub one : Bool → ℕ
one true = 1
one false = 0

-- The number of indices below n at which the test holds.
unfoldable pub count : (ℕ → Bool) → ℕ → ℕ
count p zero = 0
count p (suc n) = count p n + one (p n)
