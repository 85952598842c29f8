-- Law: what the inspector answers past the checks 1 to 5, and when: 8 and 9 with the lowest row, 7 with the need, 10 with the least pair, each only
-- where none before it holds; else it accepts. What it answers before is `CheckOutcome`'s (`request_table`).
use Rattle.std.specs.Prelude.{ℕ, ◌<◌, List, ◌≡◌, ℤ, negsuc}
use Rattle.words.specs.Words.{word_at}
use Rattle.request_table.specs.Buffers.{buffer_at}
use Rattle.request_table.specs.Colliding.{Colliding}
use Rattle.request_table.specs.Table.{rows, word}
use Rattle.inspection_rule.specs.Inspect.{proposed}

-- Row r is fixed and is not where it was.
pub record Moved (t o : List ℤ) (r : ℕ) : Type 0 where
  pub is_fixed : word t r 3 ≡ negsuc 0 → ⊥
  pub elsewhere : word_at o r ≡ word t r 3 → ⊥

-- Rows a < b of the table collide at their proposed offsets.
pub record Clash (g : ℕ) (t o : List ℤ) (a b : ℕ) : Type 0 where
  pub rising : a < b
  pub within : b < rows t
  pub collides : Colliding (buffer_at g t a (proposed o a)) (buffer_at g t b (proposed o b))
