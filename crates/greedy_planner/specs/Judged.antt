-- What the planner's checks 1 to 6 say, before any row is placed.
use Rattle.std.specs.Prelude.{ℕ, false, List, ◌≡◌, ℤ}
use Rattle.answer.specs.Answer.{done}
use Rattle.answer.specs.declared.Answer.{Answer}
use Rattle.bounded.specs.Pair.{pair_below}
use Rattle.request_table.specs.CheckLaws.{Checked}
use Rattle.request_table.specs.Table.{rows}
use Rattle.greedy_rule.specs.Plan.{fixed_collide, plan_of}

-- What lets a table, a space and a room pass them.
pub record Placeable (g : ℕ) (t : List ℤ) (space room : ℕ) : Type 0 where
  pub checks : Checked g t space room
  pub apart : pair_below (fixed_collide g t) (rows t) ≡ false

-- A refusal is the planner's answer; where they are done, the rows can be placed.
pub record Judged (g : ℕ) (t : List ℤ) (space room : ℕ) (a : Answer) : Type 0 where
  pub refusal : (a.number ≡ done → ⊥) → a ≡ plan_of g t space room
  pub passed : a.number ≡ done → Placeable g t space room
