-- Demand 2: "An offline plan that we write reads back as the same offsets; one that we read, whose first two words are ours, is written back byte for
-- byte." Both are over all inputs: any offsets of 32 bits, any lent bytes and tables that are long enough, whatever stands in them.
use Prim.Native.Nat.{ℕ}
use mathlib.Core.List.{List, ◌++◌}
use Rattle.std.specs.Prelude.{◌≡◌, ℤ, take}
use Rattle.std.proofs.Math.ListN.{length, drop}
use Rattle.answer.specs.Answer.{done_with}
use Rattle.offline_rule.specs.OfflinePlan.{plan_bytes, read_of, offsets_read, write_of, bytes_written}

-- What we wrote, its first 12 + 4n bytes.
abbrev pub written_plan : List ℤ → List ℕ → List ℕ
written_plan offsets bytes = take (plan_bytes (length offsets)) (bytes_written offsets bytes)

-- Read with the same count and room, it is done, and the offsets are the same; the rest of the table stays.
pub record ReadsBack (offsets : List ℤ) (bytes : List ℕ) (table : List ℤ) : Type 0 where
  pub done : read_of (written_plan offsets bytes) (length offsets) (length table) ≡ done_with 0
  pub same : offsets_read (written_plan offsets bytes) (length offsets) table ≡ offsets ++ drop (length offsets) table

-- ---- read, then written

-- The offsets that we read.
abbrev pub read_plan : List ℕ → ℕ → List ℤ → List ℤ
read_plan bytes tensors table = take tensors (offsets_read bytes tensors table)

-- Written into any bytes, it is done, and the plan's bytes are the same; the rest of the lent bytes stays.
pub record WritesBack (bytes : List ℕ) (tensors : ℕ) (table : List ℤ) (lent : List ℕ) : Type 0 where
  pub done : write_of (read_plan bytes tensors table) (length lent) ≡ done_with 0
  pub same : bytes_written (read_plan bytes tensors table) lent ≡ bytes ++ drop (length bytes) lent
