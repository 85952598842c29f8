-- What the search for a colliding pair of fixed rows gives.
use Rattle.std.specs.Prelude.{ℕ, true, false, List, Option, Some, None, ℤ}
use Rattle.bounded.specs.Pair.{pair_below, pair_first, pair_second}
use Rattle.units.specs.Numbered.{row_of}
use Rattle.units.specs.declared.Row.{Row}
use Rattle.request_table.specs.Table.{rows}
use Rattle.greedy_rule.specs.Plan.{fixed_collide}

-- The pair of the least first row and then the least second, if there is one.
unfoldable pub fixed_pair : ℕ → List ℤ → Option (Row × Row)
fixed_pair g t =
    elim (pair_below (fixed_collide g t) (rows t)) [
      | true ↦ Some (row_of (pair_first (fixed_collide g t) (rows t)), row_of (pair_second (fixed_collide g t) (rows t)))
      | false ↦ None
    ]
