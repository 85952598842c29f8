-- How long a line of a ledger can be. This file stands behind document 02's own text, so that a definition that gives another text is refused by it before
-- any code is.
use Rattle.std.specs.Prelude.{◌<◌}
use Rattle.recording_rule.specs.declared.RecordedAllocation.{RecordedAllocation}

-- The numbers of a kind are as wide as the code holds them.
pub record Held (r : RecordedAllocation) : Type 0 where
  pub requested_held : r.requested < 4294967296
  pub used_held : r.used < 4294967296
  pub count_held : r.count < 4294967296
