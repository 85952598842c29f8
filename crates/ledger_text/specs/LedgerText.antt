-- The text of a ledger (document 02, order 4): "six lines, `code requested used count`, by rising code". A text is the list of its ASCII codes.
use Rattle.std.specs.Prelude.{ℕ, ◌*◌, List, ◌++◌}
use Rattle.decimal_text.specs.Decimal.{decimal}
use Rattle.recording_rule.specs.Ledger.{kind_count, of_kind}
use Rattle.recording_rule.specs.declared.Ledger.{Ledger}
use Rattle.recording_rule.specs.declared.RecordedAllocation.{RecordedAllocation}
use Rattle.text_pieces.specs.Pieces.{line_feed, spaced, lines_below}

-- The line `code requested used count`.
unfoldable pub record_line : ℕ → RecordedAllocation → List ℕ
record_line code r = decimal code ++ spaced r.requested ++ spaced r.used ++ spaced r.count ++ line_feed

-- The lines of the kinds, by rising code.
abbrev pub ledger_text : Ledger → List ℕ
ledger_text l = lines_below (λ (code : ℕ). record_line code (of_kind l code)) kind_count

-- No line is longer than this: a code has one digit, and each of the three numbers has 32 bits.
abbrev pub greatest_line : ℕ
greatest_line = 35

-- No text is longer than this.
abbrev pub greatest_ledger_text : ℕ
greatest_ledger_text = greatest_line * kind_count
