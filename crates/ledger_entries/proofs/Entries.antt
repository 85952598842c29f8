-- What the code finds over the entries of a ledger, over plain values.
use Rattle.std.proofs.Common.{ℕ, ◌+◌, ◌<◌, ◌≤◌, ◌≡◌, Bool, true, false, List, [], ◌∷◌, map, length, sum_by, refl, sym, arith}
use mathlib.Core.List.{sum}
use Rattle.std.proofs.lemmas.List.Sums.{sum_by-cons}
use Rattle.std.specs.Bool.{MatchBool}
use Rattle.std.specs.List.{HoldsAt, AllWithin}
use Rattle.bounded.proofs.First.{some_found, none_found}
use Rattle.bounded.specs.First.{holds_below}
use borrow.Author.Tests.{lt-ltb, le-ltb}
use Rattle.recording_rule.specs.Ledger.{kind_count, nothing_recorded, used_bytes, total_used, passes_used}
use Rattle.recording_rule.specs.declared.Ledger.{Ledger}
use Rattle.recording_rule.specs.declared.RecordedAllocation.{RecordedAllocation}

-- Some entry's requested bytes pass its used bytes, or no entry's do.
pub some_pass : (l : Ledger) → length l.kinds ≡ kind_count → (b : Bool)
    → MatchBool b
    ((k : ℕ) × (k < length l.kinds) × HoldsAt (λ (r : RecordedAllocation). r.used < r.requested) l.kinds k)
    (AllWithin (λ (r : RecordedAllocation). r.requested ≤ r.used) l.kinds 0 (length l.kinds))
    → b ≡ holds_below (passes_used l) kind_count
some_pass l six true h = sym (some_found (passes_used l) kind_count h.0 (rw six at h.1) (lt-ltb _ _ (h.2 nothing_recorded)))
some_pass l six false h = sym (none_found (passes_used l) kind_count (λ k m. le-ltb _ _ (h k nothing_recorded (omega arith) (rw six m))))

-- The used bytes are added up from the first entry on, which comes to the same.
added : (kinds : List RecordedAllocation) → sum_by used_bytes kinds ≡ sum ◌+◌ 0 (map used_bytes kinds)
unfolding sum
added [] = refl
added (r ∷ rs) = omega (arith, sum_by-cons used_bytes r rs, added rs)

pub added_up : (kinds : List RecordedAllocation) → sum_by used_bytes kinds ≡ total_used kinds
unfolding total_used
added_up kinds = added kinds
