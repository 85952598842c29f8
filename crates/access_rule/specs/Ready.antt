-- What must hold before the first touch is performed; a done answer says it.
use Rattle.std.specs.Prelude.{ℕ, ◌<◌, ◌≤◌, true, List, ◌≡◌, ℤ}
use Rattle.access_rule.specs.Accesses.{count, access, allowed}
use Rattle.access_rule.specs.Run.{byte_of}

-- Every touch falls within an arena of this length, each reads or writes a byte, and there is room for the byte answers.
pub record Ready (o s : List ℤ) (held room : ℕ) : Type 0 where
  pub within : (k : ℕ) → k < count s → byte_of o (access s k) < held
  pub value : (k : ℕ) → k < count s → allowed (access s k) ≡ true
  pub roomy : count s ≤ room
