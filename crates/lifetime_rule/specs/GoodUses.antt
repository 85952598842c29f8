-- Good uses in signed numbers, as document 01 writes them: the definition, which reads a negative word as a number above every limit, says the same.
use Rattle.std.specs.Prelude.{ℕ, ◌<◌, ◌≤◌, List, ◌⊎◌, ◌≡◌, ℤ, ◌≤ℤ◌, ◌<ℤ◌}
use Rattle.std.proofs.Math.IntN.{pos}
use Rattle.words.specs.Words.{natural}
use Rattle.lifetime_rule.specs.Uses.{reads, writes, model_input, model_output, word}
use Rattle.lifetime_rule.specs.declared.Use.{Use}

-- A use is good unless it has "another role, a tensor not from 0 to n − 1 or an operator not from 0 to T − 1 (or not 0 where it must be)".
pub record GoodUse (operators tensors : ℕ) (u : List ℤ) (k : ℕ) : Type 0 where
  pub role_from : pos 0 ≤ℤ word u k 2
  pub role_to : word u k 2 ≤ℤ pos 3
  pub tensor_from : pos 0 ≤ℤ word u k 1
  pub tensor_below : word u k 1 <ℤ pos tensors
  pub operator_from : pos 0 ≤ℤ word u k 0
  pub operator_below : word u k 0 <ℤ pos operators
  pub outside : (word u k 2 ≡ pos model_input) ⊎ (word u k 2 ≡ pos model_output) → word u k 0 ≡ pos 0

-- The four roles.
pub data Role (r : ℕ) : Type 0 where
  reading : r ≡ reads → Role r
  writing : r ≡ writes → Role r
  input : r ≡ model_input → Role r
  output : r ≡ model_output → Role r

-- Its words are natural numbers.
pub record Natural (u : List ℤ) (k : ℕ) : Type 0 where
  pub operator_is : word u k 0 ≡ pos (natural (word u k 0))
  pub tensor_is : word u k 1 ≡ pos (natural (word u k 1))
  pub role_is : word u k 2 ≡ pos (natural (word u k 2))

-- The tests of a good use, as they stand.
pub record Tests (operators tensors : ℕ) (x : Use) : Type 0 where
  pub role : x.role ≤ model_output
  pub tensor : x.tensor.0 < tensors
  pub operator : x.operator.0 < operators
  pub zero_outside : (x.role ≤ writes) ⊎ (x.operator.0 ≡ 0)
