-- Law: the inspector accepts exactly what is written out here, over the signed words of the table and the proposal: "Accepted exactly when none
-- holds." Demand 3 stands on this rule.
use Rattle.std.specs.Prelude.{ℕ, ◌+◌, ◌*◌, ◌<◌, ◌≤◌, List, ◌≡◌, ℤ, pos, negsuc, length}
use Rattle.std.proofs.Math.Bool.{false}
use Rattle.words.specs.Words.{word_at}
use Rattle.request_table.specs.Buffers.{occupied, buffer_at}
use Rattle.request_table.specs.CheckLaws.{Checked}
use Rattle.request_table.specs.Colliding.{Colliding}
use Rattle.request_table.specs.Limits.{greatest_space}
use Rattle.request_table.specs.Table.{rows, word, request}
use Rattle.request_table.specs.WellFormed.{WellFormed}
use Rattle.inspection_rule.specs.Inspect.{proposed, moved, off_grid, proposed_need, proposed_collide}

-- A word that is a multiple of the grid from 0 on.
pub record Aligned (g : ℕ) (z : ℤ) : Type 0 where
  pub times : ℕ
  pub is : z ≡ pos (times * g)

-- What the inspector accepts.
pub record Acceptable (g : ℕ) (t : List ℤ) (space : ℕ) (o : List ℤ) : Type 0 where
  -- whole rows, no more than are allowed, every one good; a proposed offset for each; an allowed space
  pub table : WellFormed g t
  pub room : rows t ≤ length o
  pub allowed : space ≤ greatest_space
  -- every fixed row is where it was
  pub unmoved : (r : ℕ) → r < rows t → (word t r 3 ≡ negsuc 0 → ⊥) → word_at o r ≡ word t r 3
  -- every proposed offset is at least 0 and a multiple of the grid
  pub aligned : (r : ℕ) → r < rows t → Aligned g (word_at o r)
  -- every nonempty row ends within the space
  pub fits : (r : ℕ) → r < rows t → 0 < (request t r).size → proposed o r + occupied g (request t r).size ≤ space
  -- no two rows collide
  pub apart_rows : (a b : ℕ) → a < b → b < rows t → Colliding (buffer_at g t a (proposed o a)) (buffer_at g t b (proposed o b)) → ⊥

-- ---- accepted

-- What answer 0 says, by the definition's own tests.
pub record Passed (g : ℕ) (t : List ℤ) (space : ℕ) (o : List ℤ) : Type 0 where
  pub checks : Checked g t space (length o)
  pub still : (r : ℕ) → r < rows t → moved t o r ≡ false
  pub even : (r : ℕ) → r < rows t → off_grid g o r ≡ false
  pub within_space : proposed_need g t o ≤ space
  pub clear : (a b : ℕ) → a < b → b < rows t → proposed_collide g t o a b ≡ false
