-- The need of a plan: no nonempty row ends above it, and one of them ends there, or it is 0. A loop that works it out, one row after the other, has
-- `Needing`; it starts by `needing_start`, turns by `needing_more` and ends by `needing_done`.
use Rattle.std.specs.Prelude.{ℕ, ◌<◌, ◌≤◌, List, ◌≡◌, ℤ}
use Rattle.bounded.specs.Greatest.{greatest}
use Rattle.request_table.specs.Table.{rows}
use Rattle.request_table.specs.Buffers.{buffer_at, end, end_or_zero}

-- A row that ends at the need.
pub record EndsThere (g : ℕ) (t : List ℤ) (plan : ℕ → ℕ) (top : ℕ) : Type 0 where
  pub row : ℕ
  pub within : row < rows t
  pub nonempty_row : 0 < (buffer_at g t row (plan row)).length
  pub there : end (buffer_at g t row (plan row)) ≡ top

-- ---- for a loop

-- The greatest end of the rows below i.
pub record Needing (g : ℕ) (t : List ℤ) (plan : ℕ → ℕ) (top i : ℕ) : Type 0 where
  pub index : i ≤ rows t
  pub is : top ≡ greatest (λ r. end_or_zero (buffer_at g t r (plan r))) i
