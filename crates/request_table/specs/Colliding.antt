-- What it means that two buffers collide, and that two spans share a byte, in plain orders of numbers.
use Prim.Native.Nat.{ℕ, ◌<◌, ◌≤◌}
use Rattle.request_table.specs.Buffers.{end}
use Rattle.request_table.specs.declared.Buffer.{Buffer}

-- Both have a byte, each is there before the other's last moment has passed, and each starts before the other ends.
pub record Colliding (a b : Buffer) : Type 0 where
  pub a_nonempty : 0 < a.length
  pub b_nonempty : 0 < b.length
  pub a_begun : a.first.0 ≤ b.last.0
  pub b_begun : b.first.0 ≤ a.last.0
  pub a_below : a.offset.0 < end b
  pub b_below : b.offset.0 < end a

-- A byte that lies in both spans.
pub record SharedByte (a b : Buffer) : Type 0 where
  pub byte : ℕ
  pub from_a : a.offset.0 ≤ byte
  pub to_a : byte < end a
  pub from_b : b.offset.0 ≤ byte
  pub to_b : byte < end b
