-- Good scripts over signed words, as document 01 writes them: moments never go back, and each touch is a byte of a row alive then. The definition, which
-- reads a negative word as a number above every limit, calls the same touch the lowest bad one.
use Prim.Native.Nat.{ℕ, ◌<◌}
use Rattle.std.specs.Prelude.{List, ◌≡◌, ℤ, negsuc, ◌≤ℤ◌, ◌<ℤ◌}
use Rattle.std.proofs.Math.IntN.{pos}
use Rattle.request_table.specs.Table.{rows, word}
use Rattle.access_rule.specs.Accesses.{count}

-- "it names a request row alive at that moment, 0 ≤ index < size, and the value is allowed".
pub record LivingByte (t s : List ℤ) (k : ℕ) : Type 0 where
  pub row : ℕ
  pub names : word s k 1 ≡ pos row
  pub named : row < rows t
  pub begun : word t row 1 ≤ℤ word s k 0
  pub lasting : word s k 0 ≤ℤ word t row 2
  pub index_from : pos 0 ≤ℤ word s k 2
  pub index_below : word s k 2 <ℤ word t row 0
  pub value_from : negsuc 0 ≤ℤ word s k 3
  pub value_to : word s k 3 ≤ℤ pos 255

-- Touch k is such a one, and no moment before it is above its own.
pub record GoodAccess (t s : List ℤ) (k : ℕ) : Type 0 where
  pub moments : (i : ℕ) → i < k → word s i 0 ≤ℤ word s k 0
  pub living : LivingByte t s k

-- "moments never go back and each touch reads or writes one byte within the size of a tensor alive at that moment".
pub record GoodScript (t s : List ℤ) : Type 0 where
  pub moments : (i j : ℕ) → i < j → j < count s → word s i 0 ≤ℤ word s j 0
  pub living : (k : ℕ) → k < count s → LivingByte t s k
