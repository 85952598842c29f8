-- Laws of the definitions of specs/LedgerLengths.antt.
use Rattle.std.specs.Prelude.{ℕ, ◌<◌, ◌≤◌, length}
use Rattle.std.proofs.Common.{arith, length-append}
use Rattle.decimal_text.proofs.Decimals.{places_at_most, decimal_long}
use Rattle.ledger_text.specs.LedgerText.{record_line, greatest_line}
use Rattle.recording_rule.specs.Ledger.{kind_count}
use Rattle.recording_rule.specs.declared.RecordedAllocation.{RecordedAllocation}
use Rattle.text_pieces.proofs.Pieces.{spaced_short}
use Rattle.ledger_text.specs.LedgerLengths.{Held}

-- A kind's line is no longer than the greatest.
pub line_short : (code : ℕ) (r : RecordedAllocation) → code < kind_count → Held r → length (record_line code r) ≤ greatest_line
unfolding record_line
line_short code r h w =
    simp length-append
    (omega (
      arith,
      decimal_long code,
      places_at_most code 1 (omega arith) (omega arith),
      spaced_short r.requested (omega (arith, w.requested_held)),
      spaced_short r.used (omega (arith, w.used_held)),
      spaced_short r.count (omega (arith, w.count_held)),
    ))
