-- `ledger_text::put_ledger` meets its contract: the lines of the kinds so far are put, none longer than a line can be.
use Prim.Native.Nat.{ℕ, ◌*◌, ◌≤◌}
use Rattle.ledger_text.specs.LedgerText.{record_line, greatest_line}
use Rattle.recording_rule.specs.Ledger.{kind_count, of_kind}
use Rattle.text_pieces.specs.Pieces.{lines_below}
use Rattle.text_pieces.specs.Put.{Put}
use Rattle.ledger_text.proofs.put_ledger.Given as goal

abbrev pub invariant-loop-code : goal.invariant-loop-code
invariant-loop-code l =
    Put l.initial.text l.text 0 l.next (lines_below (λ (k : ℕ). record_line k (of_kind l.ledger k)) l.code) × (l.next ≤ greatest_line * l.code) × (l.code ≤ kind_count)
