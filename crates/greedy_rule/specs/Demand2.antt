-- Demand 2: "Given an allowed space and room for the answer, a well-formed request table is refused only if two fixed tensors clash or the resulting
-- plan exceeds the space." Each answer is given exactly if its case holds.
use Rattle.std.specs.Prelude.{ℕ, List, ℤ}
use Rattle.greedy_rule.specs.Answers.{FixedClash}

-- Two fixed rows that collide.
pub record SomeClash (g : ℕ) (t : List ℤ) : Type 0 where
  pub a : ℕ
  pub b : ℕ
  pub clashes : FixedClash g t a b
