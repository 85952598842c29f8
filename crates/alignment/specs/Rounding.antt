-- Rounding to a multiple. Up: a row's occupied size, and where a temporary allocation starts. Down: where a persistent allocation starts.
--     rounded_up g n     the least multiple of g that is at least n
--     rounded_down g n   the greatest multiple of g that is at most n
-- A reader believes them by the laws below, for any g above 0. No number is a multiple of 0 but 0, and rounding to it gives 0.
use Rattle.std.specs.Prelude.{ℕ, ◌+◌, ◌-◌, ◌*◌, ◌/◌}

-- The number rounded up to a multiple of g.
unfoldable pub rounded_up : ℕ → ℕ → ℕ
rounded_up g n = (n + (g - 1)) / g * g

-- The number rounded down to a multiple of g.
unfoldable pub rounded_down : ℕ → ℕ → ℕ
rounded_down g n = n / g * g
