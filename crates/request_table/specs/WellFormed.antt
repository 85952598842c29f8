-- A well-formed request table, in document 01's words, and that it passes the checks 1 to 5 with an allowed space and room for the answer.
use Rattle.std.specs.Prelude.{ℕ, ◌<◌, ◌≤◌, ◌%◌, List, ◌≡◌, ℤ, length}
use Rattle.request_table.specs.GoodRows.{GoodRow}
use Rattle.request_table.specs.Limits.{greatest_rows}
use Rattle.request_table.specs.Table.{rows}

-- Whole rows, no more than are allowed, each of them good.
pub record WellFormed (g : ℕ) (t : List ℤ) : Type 0 where
  pub whole : length t % 4 ≡ 0
  pub few : rows t ≤ greatest_rows
  pub each : (r : ℕ) → r < rows t → GoodRow g t r
