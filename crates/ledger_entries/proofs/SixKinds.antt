-- A ledger that the code holds has an entry for each kind, and each entry's numbers are of 32 bits.
use Rattle.std.proofs.Common.{◌*◌, ◌^◌, ◌<◌, ◌≤◌, ◌≡◌, List, [], ◌∷◌, length, sum_by, arith}
use Rattle.std.proofs.lemmas.List.Sums.{sum_by-cons}
use denote.Array.{each}
use denote.Laws.{Is}
use denote.Shadow.{shadow}
use denote.Struct.Declared.{row}
use mir.Val.{Val}
use Rattle.recording_rule.specs.contracts.Ledger.{the_type}
use Rattle.recording_rule.specs.contracts.RecordedAllocation.{the_row}
use Rattle.recording_rule.specs.Ledger.{kind_count, used_bytes}
use Rattle.recording_rule.specs.declared.Ledger.{Ledger}
use Rattle.recording_rule.specs.declared.RecordedAllocation.{RecordedAllocation}

-- What a parameter's place in `good` says.
pub six_kinds : (l : Ledger) (vs : List Val) → Is (row the_type) l vs → length l.kinds ≡ kind_count
six_kinds l vs p = p.1.1.0.1.0.1

each_fits : (xs : List RecordedAllocation) (us : List Val) → shadow (each RecordedAllocation the_row.own_val xs us) → sum_by used_bytes xs ≤ length xs * 4294967295
each_fits [] us s = omega arith
each_fits (x ∷ xs) [] s = absurd s
each_fits (x ∷ xs) (u ∷ us) s = omega (arith, sum_by-cons used_bytes x xs, each_fits xs us s.1, s.0.1.1.1.0.1)

-- Six used bytes of 32 bits add up to a number of 64.
pub total_fits : (l : Ledger) (vs : List Val) → Is (row the_type) l vs → sum_by used_bytes l.kinds < 2 ^ 64
total_fits l vs p = omega (arith, each_fits l.kinds p.1.1.0.0 p.1.1.0.1.1, six_kinds l vs p)
