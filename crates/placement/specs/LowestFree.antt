-- Law: a row that takes the lowest offset is free of the rows already placed, and at no lower offset is it.
use Prim.Native.Nat.{ℕ, ◌<◌}
use Rattle.std.specs.Prelude.{List, ◌≡◌, ℤ}
use Rattle.std.proofs.Math.Bool.{true}
use Rattle.request_table.specs.Buffers.{buffer_at}
use Rattle.request_table.specs.Colliding.{Colliding}
use Rattle.request_table.specs.Table.{rows}
use Rattle.placement.specs.Placing.{Placing}

-- A row that is placed and collides with row r at offset o.
pub record Blocker (g : ℕ) (t : List ℤ) (s : Placing) (r o : ℕ) : Type 0 where
  pub row : ℕ
  pub within : row < rows t
  pub placed : s.placed row ≡ true
  pub collides : Colliding (buffer_at g t r o) (buffer_at g t row (s.offset row))

-- Row r at offset o collides with no placed row, and at every lower offset with some.
pub record LowestFree (g : ℕ) (t : List ℤ) (s : Placing) (r o : ℕ) : Type 0 where
  pub clear : (b : ℕ) → b < rows t → s.placed b ≡ true → Colliding (buffer_at g t r o) (buffer_at g t b (s.offset b)) → ⊥
  pub blocked : (q : ℕ) → q < o → Blocker g t s r q
