-- The ledger of persistent allocations (document 02, order 4): "a ledger beside the sections with document 004's six recorded kinds of keep, each with
-- requested bytes, used bytes and a count." A ledger is the list of what was recorded of each kind, by its code. Any ledger may be handed in; one that
-- does not agree with the sections, or with itself, is not balanced. A keep is document 01's word for a persistent allocation.
use Rattle.std.specs.Prelude.{ℕ, ◌+◌, Bool, not, ◌&&◌, eqb, ltb, get_or, set, replicate}
use mathlib.Core.List.{List, map, sum}
use Rattle.bounded.specs.First.{holds_below}
use Rattle.recording_rule.specs.declared.Ledger.{Ledger}
use Rattle.recording_rule.specs.declared.RecordedAllocation.{RecordedAllocation}

-- "six recorded kinds": "Codes are 0 to 5".
abbrev pub kind_count : ℕ
kind_count = 6

-- "A kind takes 65,535 keeps".
abbrev pub greatest_count : ℕ
greatest_count = 65535

-- Nothing recorded.
abbrev pub nothing_recorded : RecordedAllocation
nothing_recorded = record { requested = 0; used = 0; count = 0 }

-- "a ledger of zeros".
abbrev pub empty_ledger : Ledger
empty_ledger = record { kinds = replicate kind_count nothing_recorded }

-- What was recorded of a kind; of a code that no kind has, nothing.
abbrev pub of_kind : Ledger → ℕ → RecordedAllocation
of_kind l kind = get_or l.kinds kind nothing_recorded

-- ---- a ledger that is balanced

-- The used bytes of a kind.
abbrev pub used_bytes : RecordedAllocation → ℕ
used_bytes r = r.used

-- "the total used over all kinds".
unfoldable pub total_used : List RecordedAllocation → ℕ
total_used kinds = sum ◌+◌ 0 (map used_bytes kinds)

-- A kind's "requested bytes pass its used bytes".
abbrev pub passes_used : Ledger → ℕ → Bool
passes_used l kind = ltb (of_kind l kind).used (of_kind l kind).requested

-- Not balanced against the bytes that the tail has taken: "A ledger whose used total isn't usable less tail, or with a kind whose requested bytes pass its
-- used bytes, is number 13."
unfoldable pub balanced : Ledger → ℕ → Bool
balanced l taken = eqb (total_used l.kinds) taken && not (holds_below (passes_used l) kind_count)

-- ---- a keep recorded

-- One keep more, with the gap above it: "Used is requested plus gaps."
abbrev pub with_keep : RecordedAllocation → ℕ → ℕ → RecordedAllocation
with_keep r size gap = record { requested = r.requested + size; used = r.used + (size + gap); count = r.count + 1 }

-- The ledger with one keep more of a kind.
abbrev pub with_keep_of : Ledger → ℕ → ℕ → ℕ → Ledger
with_keep_of l kind size gap = record { kinds = set l.kinds kind (with_keep (of_kind l kind) size gap) }
