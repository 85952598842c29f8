-- What a grid loses at the start of an arena, and the alignments that it allows (document 01, "Three sections in one arena" and number 14). Both are over
-- the grid, which is 16 in document 01.
use Rattle.std.specs.Prelude.{ℕ, ◌-◌, ◌%◌, ◌≤◌, Bool, ◌&&◌, nat_le}
use Rattle.alignment.specs.Powers.{is_power_of_two, PowerOfTwo}

-- "Opening at start s with length L loses (16 − s mod 16) mod 16 bytes".
unfoldable pub loss : ℕ → ℕ → ℕ
loss g start = (g - start % g) % g

-- The alignments that are allowed: the powers of two up to the grid; at 16 they are "1, 2, 4, 8 or 16".
unfoldable pub allowed : ℕ → ℕ → Bool
allowed g alignment = is_power_of_two alignment && nat_le alignment g

-- An alignment that is allowed, in plain terms.
pub record Allowed (g alignment : ℕ) : Type 0 where
  pub power : PowerOfTwo alignment
  pub within : alignment ≤ g
