-- A number as one of a kind.
use Rattle.std.specs.Prelude.{ℕ}
use Rattle.units.specs.declared.Row.{Row}
use Rattle.units.specs.declared.Tensor.{Tensor}

-- The row of that number.
abbrev pub row_of : ℕ → Row
row_of number = record { 0 = number }

-- The tensor of that number.
abbrev pub tensor_of : ℕ → Tensor
tensor_of number = record { 0 = number }
