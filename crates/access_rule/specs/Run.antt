-- The run of a script (document 01, "Words of demand 3"): "The run starts from the arena as lent; each touch, in script order, finds it as the touch
-- before left it." An arena is the list of its bytes, a proposal the list of its words.
use Rattle.std.specs.Prelude.{ℕ, zero, suc, ◌+◌, true, false, List, ℤ, get_or, set}
use Rattle.inspection_rule.specs.Inspect.{proposed}
use Rattle.access_rule.specs.Accesses.{access, reads, written}
use Rattle.access_rule.specs.declared.Access.{Access}

-- "A touch falls on the arena byte numbered by its row's proposed offset plus its index".
unfoldable pub byte_of : List ℤ → Access → ℕ
byte_of o a = proposed o a.row.0 + a.index

-- The arena as a touch leaves it: a read changes nothing, a write its own byte.
unfoldable pub arena_by : List ℤ → Access → List ℕ → List ℕ
arena_by o a arena = elim (reads a) [ true ↦ arena | false ↦ set arena (byte_of o a) (written a) ]

-- "Each answer byte is the byte read or written".
unfoldable pub byte_by : List ℤ → Access → List ℕ → ℕ
byte_by o a arena = elim (reads a) [ true ↦ get_or arena (byte_of o a) 0 | false ↦ written a ]

-- The arena as the first k touches leave it.
unfoldable pub arena_after : List ℤ → List ℤ → List ℕ → ℕ → List ℕ
arena_after o s arena zero = arena
arena_after o s arena (suc k) = arena_by o (access s k) (arena_after o s arena k)

-- The answer byte of touch k, which finds the arena as the touches before left it.
unfoldable pub answer_byte : List ℤ → List ℤ → List ℕ → ℕ → ℕ
answer_byte o s arena k = byte_by o (access s k) (arena_after o s arena k)
