-- The grid and the limits of document 01, "Requests and the greedy rule": one name each, beside one constant each in the code.
use Rattle.std.specs.Prelude.{ℕ}

-- The grid that the entry points pass. All else is over any grid.
abbrev pub grid : ℕ
grid = 16

-- "At most 256 rows.", which document 02, order 5, raises to 1,024.
abbrev pub greatest_rows : ℕ
greatest_rows = 1024

-- The greatest size, fixed offset and space: 16,777,216.
abbrev pub greatest_space : ℕ
greatest_space = 16777216

-- The last moment that a row may name.
abbrev pub last_moment : ℕ
last_moment = 65535
