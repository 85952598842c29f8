-- What the test for a good touch says, in orders of natural numbers.
use Rattle.std.specs.Prelude.{◌<◌, ◌≤◌, true, List, ◌≡◌, ℤ}
use Rattle.request_table.specs.Table.{rows, request}
use Rattle.access_rule.specs.Accesses.{allowed}
use Rattle.access_rule.specs.declared.Access.{Access}

-- A touch names a row that is alive at its moment and a byte of it, and its value is allowed.
pub record Reaches (t : List ℤ) (a : Access) : Type 0 where
  pub named : a.row.0 < rows t
  pub begun : (request t a.row.0).first.0 ≤ a.moment.0
  pub lasting : a.moment.0 ≤ (request t a.row.0).last.0
  pub inside : a.index < (request t a.row.0).size
  pub value : allowed a ≡ true
