-- Law: in an accepted plan no byte is held by two rows at one moment.
use Rattle.std.specs.Prelude.{ℕ, ◌+◌, ◌<◌, ◌≤◌, List, ℤ}
use Rattle.request_table.specs.Table.{rows, request}
use Rattle.inspection_rule.specs.Inspect.{proposed}

-- Row a of the table is alive at moment m, and byte x is one of the bytes of its size.
pub record Holds (t o : List ℤ) (a x m : ℕ) : Type 0 where
  pub within : a < rows t
  pub begun : (request t a).first.0 ≤ m
  pub lasting : m ≤ (request t a).last.0
  pub from : proposed o a ≤ x
  pub below : x < proposed o a + (request t a).size
