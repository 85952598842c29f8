-- A number in decimal, in plain terms: its digits read back are the number, each is one of `0` to `9`, and it starts with `0` only where it is `0` alone.
-- A number of 64 bits is below 10 ^ 20, so that the laws hold of every number that a text has.
use Rattle.std.specs.Prelude.{ℕ, ◌≤◌}

-- ---- its digits

-- The code of a digit, `0` to `9`.
pub record IsDigit (code : ℕ) : Type 0 where
  pub low : 48 ≤ code
  pub high : code ≤ 57
