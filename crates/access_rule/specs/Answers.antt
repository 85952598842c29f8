-- The script's answer as the code comes to it: a refusal of the checks 1 to 3 stands; past them a refusal of the inspector stands; past both the arena and
-- the touches decide. And what a done answer says.
use Rattle.std.specs.Prelude.{ℕ, ◌≤◌, ◌%◌, List, ◌≡◌, ℤ, length}
use Rattle.request_table.specs.Limits.{greatest_rows}
use Rattle.request_table.specs.Table.{rows}
use Rattle.access_rule.specs.Accesses.{greatest_accesses, count}

-- What lets the tables pass the checks 1 to 3.
pub record Sized (t o s : List ℤ) (room : ℕ) : Type 0 where
  pub whole : length t % 4 ≡ 0
  pub whole_script : length s % 4 ≡ 0
  pub few : rows t ≤ greatest_rows
  pub few_accesses : count s ≤ greatest_accesses
  pub proposed_all : rows t ≤ length o
  pub roomy : count s ≤ room
