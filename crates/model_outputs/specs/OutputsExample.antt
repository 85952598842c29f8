-- The tables of an example of the law: see proofs/OutputsExample.antt.
use Rattle.std.specs.Prelude.{ℕ, List, [], ◌∷◌, ℤ, pos, negsuc, replicate}
use Rattle.lifetime_rule.specs.Uses.{writes, model_output}

-- Operator, tensor, role.
abbrev pub uses : List ℤ
uses = pos 0 ∷ pos 0 ∷ pos writes ∷ pos 0 ∷ pos 0 ∷ pos model_output ∷ pos 1 ∷ pos 1 ∷ pos writes ∷ []

-- Room for two lives.
abbrev pub lifetimes : List ℤ
lifetimes = replicate 4 (pos 0)

-- Size, first moment, last moment; placed by us.
abbrev pub table : List ℤ
table = pos 16 ∷ pos 0 ∷ pos 1 ∷ negsuc 0 ∷ pos 16 ∷ pos 1 ∷ pos 1 ∷ negsuc 0 ∷ []

-- The plan: the output at 0, the other tensor behind it.
abbrev pub offsets : List ℤ
offsets = pos 0 ∷ pos 16 ∷ []

-- Moment, row, index, value: byte 3 of the output is written, byte 3 of the other tensor, and at the last moment that of the output is read.
abbrev pub script : List ℤ
script = pos 0 ∷ pos 0 ∷ pos 3 ∷ pos 7 ∷ pos 1 ∷ pos 1 ∷ pos 3 ∷ pos 8 ∷ pos 1 ∷ pos 0 ∷ pos 3 ∷ negsuc 0 ∷ []

-- The lent arena and the lent byte answers, none of which has a byte that the script writes.
abbrev pub arena : List ℕ
arena = replicate 32 85

-- One byte answer for each touch.
abbrev pub bytes : List ℕ
bytes = replicate 3 170
