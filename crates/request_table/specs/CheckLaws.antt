-- What the checks 1 to 5 say: they pass exactly when the tables' lengths, the space and every row are as they must be.
use Rattle.std.specs.Prelude.{ℕ, ◌<◌, ◌≤◌, ◌%◌, true, List, ◌≡◌, ℤ, length}
use Rattle.request_table.specs.Limits.{greatest_rows, greatest_space}
use Rattle.request_table.specs.Table.{rows, request, good}

-- What lets a table and a room pass the checks 1 to 3.
pub record Shaped (t : List ℤ) (room : ℕ) : Type 0 where
  pub whole : length t % 4 ≡ 0
  pub few : rows t ≤ greatest_rows
  pub roomy : rows t ≤ room

-- What lets a table, a space and a room pass the checks 1 to 5.
pub record Checked (g : ℕ) (t : List ℤ) (space room : ℕ) : Type 0 where
  pub shaped : Shaped t room
  pub allowed : space ≤ greatest_space
  pub good_rows : (r : ℕ) → r < rows t → good g (request t r) ≡ true
