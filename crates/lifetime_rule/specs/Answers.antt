-- The answer as the code comes to it: a refusal of the checks 1, 2 and 3 stands; past them the uses decide; past those the checks 20 and 21. And what a
-- done answer says.
use Rattle.std.specs.Prelude.{ℕ, ◌<◌, ◌≤◌, ◌*◌, ◌%◌, true, List, ◌≡◌, ℤ, length}
use Rattle.lifetime_rule.specs.Uses.{greatest_operators, greatest_tensors, greatest_uses, count, use_at, good}

-- What lets a list, its numbers and a room pass the checks 1, 2 and 3.
pub record Sized (operators tensors : ℕ) (u : List ℤ) (room : ℕ) : Type 0 where
  pub whole : length u % 3 ≡ 0
  pub few_uses : count u ≤ greatest_uses
  pub some_operator : 0 < operators
  pub few_operators : operators ≤ greatest_operators
  pub few_tensors : tensors ≤ greatest_tensors
  pub roomy : tensors * 2 ≤ room

-- Every use of the list is good.
pub record EachGood (operators tensors : ℕ) (u : List ℤ) : Type 0 where
  pub each : (k : ℕ) → k < count u → good operators tensors (use_at u k) ≡ true
