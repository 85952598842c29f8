-- Law: when two rows of a table collide, over their signed words and their offsets, in document 01's words: "The occupied size is the size rounded up to a
-- multiple of 16. The span starts at the offset and has that length. Two rows live together when first of each ≤ last of the other. Both ends count. Two
-- rows collide when both are nonempty, live together, and their spans share a byte." Nothing here is said by the definition's own tests.
use Rattle.std.specs.Prelude.{ℕ, ◌+◌, ◌*◌, ◌<◌, ◌≤◌, List, ◌≡◌, ℤ, pos, ◌≤ℤ◌, ◌<ℤ◌}
use Rattle.request_table.specs.Table.{word}

-- "the size rounded up to a multiple of 16": the least multiple of the grid that is at least the size.
pub record LeastMultiple (g : ℕ) (size : ℤ) (n : ℕ) : Type 0 where
  pub times : ℕ
  pub is : n ≡ times * g
  pub enough : size ≤ℤ pos n
  pub least : (k : ℕ) → size ≤ℤ pos (k * g) → n ≤ k * g

-- "The span starts at the offset and has that length": a byte of the span of row r at offset o.
pub record InSpan (g : ℕ) (t : List ℤ) (r o byte : ℕ) : Type 0 where
  pub occupies : ℕ
  pub rounded : LeastMultiple g (word t r 0) occupies
  pub from : o ≤ byte
  pub below : byte < o + occupies

-- Row a at offset p and row b at offset q collide.
pub record CollidingWords (g : ℕ) (t : List ℤ) (a p b q : ℕ) : Type 0 where
  pub a_nonempty : pos 0 <ℤ word t a 0
  pub b_nonempty : pos 0 <ℤ word t b 0
  pub a_begun : word t a 1 ≤ℤ word t b 2
  pub b_begun : word t b 1 ≤ℤ word t a 2
  pub byte : ℕ
  pub in_a : InSpan g t a p byte
  pub in_b : InSpan g t b q byte
