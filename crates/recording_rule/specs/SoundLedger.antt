-- Law: document 02's promise over whole histories: "From a fresh state and a ledger of zeros, where every keep in the history went through the ledger, each
-- kind's numbers are those of its accepted keeps, and the total used over all kinds equals usable less tail, both worked out from the history." It holds on
-- any grid, after any accepted opening and any list of operations with any arguments, refused ones among them; and document 01's promise holds there too.
use Rattle.std.specs.Prelude.{ℕ, ◌+◌, ◌<◌, ◌≡◌, length}
use mathlib.Core.List.{List}
use Rattle.arena_sections.specs.History.{tail_by, used}
use Rattle.recording_rule.specs.Ledger.{kind_count, of_kind, total_used}
use Rattle.recording_rule.specs.RecordedHistory.{Keep, Audited, kept_spans, kept_as, numbers_of}
use Rattle.recording_rule.specs.declared.Ledger.{Ledger}

-- What is so of sections and ledger of an arena with a usable length, and of the accepted keeps of their history.
pub record SoundLedger (usable : ℕ) (x : Audited) (keeps : List Keep) : Type 0 where
  -- each kind's numbers are those of its accepted keeps
  pub each_kind : (kind : ℕ) → kind < kind_count → of_kind x.ledger kind ≡ numbers_of (kept_as kind keeps)
  -- the total used over all kinds is the sum, over all accepted keeps, of size and gap
  pub total_is : total_used x.ledger.kinds ≡ used (kept_spans keeps)
  -- it equals usable less tail: the tail is where the newest keep starts
  pub used_total : tail_by usable (kept_spans keeps) + total_used x.ledger.kinds ≡ usable
  pub tail_is : x.sections.tail ≡ tail_by usable (kept_spans keeps)
  pub usable_is : x.sections.usable ≡ usable

-- ---- what one keep more does to a ledger

-- The ledger tells what the keeps come to.
pub record Tells (l : Ledger) (keeps : List Keep) : Type 0 where
  pub long : length l.kinds ≡ kind_count
  pub each : (kind : ℕ) → kind < kind_count → of_kind l kind ≡ numbers_of (kept_as kind keeps)
  pub total : total_used l.kinds ≡ used (kept_spans keeps)
