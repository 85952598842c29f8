-- The answer for a shape table as the code comes to it: a refusal of the lengths stands; past them the shapes decide. And what is left in the lent table.
use Rattle.std.specs.Prelude.{ℕ, ◌*◌, ◌≤◌, ◌%◌, List, ◌≡◌, ℤ, length}
use Rattle.request_table.specs.Limits.{greatest_rows}
use Rattle.shape_rule.specs.ShapeTable.{shape_count}

-- What lets the tables' lengths pass.
pub record Fitting (t : List ℤ) (room : ℕ) : Type 0 where
  pub whole : length t % 13 ≡ 0
  pub few : shape_count t ≤ greatest_rows
  pub roomy : shape_count t * 4 ≤ room
