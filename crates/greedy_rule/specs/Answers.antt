-- Law (demand 2): an allowed space, room for the answer and a table of good rows is refused only as 6 or 7: 6 exactly if two fixed rows collide, with the
-- least pair; 7 exactly if not 6 and the plan's need exceeds the space. All else is done, with the need.
use Rattle.std.specs.Prelude.{ℕ, ◌<◌, true, List, ◌≡◌, ℤ}
use Rattle.bounded.specs.Lowest.{LeastPair}
use Rattle.request_table.specs.Buffers.{buffer_at}
use Rattle.request_table.specs.Colliding.{Colliding}
use Rattle.request_table.specs.Table.{rows, fixed, fixed_offset}

-- Rows a < b are fixed and collide, each at its own offset.
pub record FixedClash (g : ℕ) (t : List ℤ) (a b : ℕ) : Type 0 where
  pub rising : a < b
  pub within : b < rows t
  pub a_fixed : fixed t a ≡ true
  pub b_fixed : fixed t b ≡ true
  pub collides : Colliding (buffer_at g t a (fixed_offset t a)) (buffer_at g t b (fixed_offset t b))

-- The least such pair: no other has a lower first row, and none with that first row a lower second.
abbrev pub LeastClash : ℕ → List ℤ → ℕ → ℕ → Type 0
LeastClash g t = LeastPair (FixedClash g t)
