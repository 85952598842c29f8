-- What the lowest place of a row is in the greedy plan: it collides with no row placed before it, and at every lower offset it would collide with one.
use Rattle.std.specs.Prelude.{ℕ, ◌<◌, List, ℤ}
use Rattle.request_table.specs.Buffers.{buffer_at}
use Rattle.request_table.specs.Colliding.{Colliding}
use Rattle.request_table.specs.Table.{rows}
use Rattle.greedy_rule.specs.Greedy.{greedy_plan}
use Rattle.greedy_rule.specs.GreedyOrder.{PlacedBefore}

module _ (g : ℕ) (t : List ℤ) where
  -- A row placed before row r that collides, at its offset of the plan, with row r at offset o.
  pub record BlockedBy (r o : ℕ) : Type 0 where
    pub row : ℕ
    pub within : row < rows t
    pub earlier : PlacedBefore g t row r
    pub collides : Colliding (buffer_at g t r o) (buffer_at g t row (greedy_plan g t row))

  -- No row placed before it collides with row r, and at every lower offset some would.
  pub record TakesLowest (r : ℕ) : Type 0 where
    pub clear : (b : ℕ) → b < rows t → PlacedBefore g t b r → Colliding (buffer_at g t r (greedy_plan g t r)) (buffer_at g t b (greedy_plan g t b)) → ⊥
    pub blocked : (q : ℕ) → q < greedy_plan g t r → BlockedBy r q
