-- The answers of reading and of writing as the code comes to them, one check after the other, and what a done answer says.
use Rattle.std.specs.Prelude.{ℕ, ◌≤◌, List, ◌≡◌, ℤ, pos, length}
use Rattle.request_table.specs.Limits.{greatest_rows}
use Rattle.word_bytes.specs.Bytes.{word_of}
use Rattle.offline_rule.specs.OfflinePlan.{plan_bytes, count_place}

-- ---- reading

-- What lets a plan's bytes, a count and a room pass.
pub record Readable (bytes : List ℕ) (tensors room : ℕ) : Type 0 where
  pub count_is : word_of bytes count_place ≡ pos tensors
  pub whole : length bytes ≡ plan_bytes tensors
  pub few : tensors ≤ greatest_rows
  pub roomy : tensors ≤ room

-- ---- writing

-- What lets offsets and a room pass.
pub record Writable (offsets : List ℤ) (room : ℕ) : Type 0 where
  pub few : length offsets ≤ greatest_rows
  pub roomy : plan_bytes (length offsets) ≤ room
