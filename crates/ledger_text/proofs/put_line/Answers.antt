-- `ledger_text::put_line` meets its contract: the code, the three numbers, the line feed.
use mathlib.Core.Path.{subst}
use native.Mathlib.Omega.{arith}
use borrow.Author.Rules.{rules}
use Rattle.ledger_text.specs.LedgerLengths.{Held}
use Rattle.ledger_text.proofs.LedgerLengths.{line_short}
use Rattle.ledger_text.specs.LedgerText.{record_line}
use Rattle.recording_rule.specs.declared.RecordedAllocation.{RecordedAllocation}
use Rattle.text_pieces.specs.Pieces.{line_feed, spaced}
use Rattle.text_pieces.specs.Put.{Put, Room, first, more}
use Rattle.text_pieces.proofs.Put.{chain_put}
use Rattle.ledger_text.proofs.put_line.Goals as goal

pub returns : goal.returns
unfolding record_line spaced
returns c =
    let a = c.args in
    let r : RecordedAllocation = c.of_kind-recorded.result in
    let held : Held r = record { requested_held = search rules; used_held = search rules; count_held = search rules } in
    let short = line_short a.code r c.requires.0 held in
    let room : Room a.text.now a.at (record_line a.code r) = record { holds = omega (arith, short, c.requires.1) } in
    let code = c.put_number-after_code.ensures in
    let requested = c.put_number-after_requested.ensures in
    let used = c.put_number-after_used.ensures in
    let count = c.put_number-after_count.ensures in
    let feed = c.put_text.ensures in
    let to_used = more (spaced r.used) (more (spaced r.requested) (first _ (code.end, code.bytes)) (requested.end, requested.bytes)) (used.end, used.bytes) in
    let line = chain_put (more line_feed (more (spaced r.count) to_used (count.end, count.bytes)) (feed.end, feed.bytes)) room in record {
      line = subst (λ (x : RecordedAllocation). Put a.text.now c.put_text.new.text a.at c.put_text.result (record_line a.code x)) c.of_kind-recorded.ensures line;
      short = omega (arith, short, line.ends);
    }
