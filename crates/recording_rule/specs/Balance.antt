-- Laws of the ledger: a balanced one in plain terms, and what one keep more changes.
use Rattle.std.specs.Prelude.{ℕ, ◌<◌, ◌≤◌, ◌≡◌}
use Rattle.recording_rule.specs.Ledger.{kind_count, of_kind, total_used}
use Rattle.recording_rule.specs.declared.Ledger.{Ledger}

-- A balanced ledger: the kinds' used bytes add up to what the tail has taken, and no kind's requested bytes pass its used bytes.
pub record Balanced (l : Ledger) (taken : ℕ) : Type 0 where
  pub total : total_used l.kinds ≡ taken
  pub within : (kind : ℕ) → kind < kind_count → (of_kind l kind).requested ≤ (of_kind l kind).used
