-- Good rows in signed numbers, as document 01 writes them: the definition, which reads a negative word as a number above every limit, says the same.
use Rattle.std.specs.Prelude.{ℕ, ◌*◌, ◌≤◌, List, ◌⊎◌, ◌≡◌, ℤ, ◌≤ℤ◌}
use Rattle.std.proofs.Math.IntN.{pos, negsuc}
use Rattle.request_table.specs.Limits.{greatest_space, last_moment}
use Rattle.request_table.specs.Table.{word}

-- A natural multiple of the grid, up to the greatest offset.
pub record Multiple (g : ℕ) (z : ℤ) : Type 0 where
  pub times : ℕ
  pub is : z ≡ pos (times * g)
  pub small : times * g ≤ greatest_space

-- "A row is good when size is 0 to 16,777,216; 0 ≤ first ≤ last ≤ 65,535; and the offset is −1 (placed by us) or a multiple of 16 from 0 to 16,777,216."
pub record GoodRow (g : ℕ) (t : List ℤ) (r : ℕ) : Type 0 where
  pub size_from : pos 0 ≤ℤ word t r 0
  pub size_to : word t r 0 ≤ℤ pos greatest_space
  pub first_from : pos 0 ≤ℤ word t r 1
  pub first_to : word t r 1 ≤ℤ word t r 2
  pub last_to : word t r 2 ≤ℤ pos last_moment
  pub offset : (word t r 3 ≡ negsuc 0) ⊎ Multiple g (word t r 3)
