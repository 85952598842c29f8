-- `ledger_text::write_ledger` meets its contract: the text whole, or no room.
use Rattle.std.proofs.Common.{ap, Some}
use Rattle.ledger_text.specs.LedgerText.{greatest_ledger_text}
use Rattle.text_pieces.proofs.Put.{put_at_start}
use Rattle.text_pieces.proofs.Replied.{no_room, reply_stands}
use Rattle.ledger_text.proofs.write_ledger.Goals as goal

pub returns-then-text-lt-GREATEST_LEDGER_TEXT-clause-reply : goal.returns-then-text-lt-GREATEST_LEDGER_TEXT-clause-reply
returns-then-text-lt-GREATEST_LEDGER_TEXT-clause-reply c = (no_room greatest_ledger_text _ _ c.if-text-lt-GREATEST_LEDGER_TEXT.true).0

pub returns-then-text-lt-GREATEST_LEDGER_TEXT-clause-text : goal.returns-then-text-lt-GREATEST_LEDGER_TEXT-clause-text
returns-then-text-lt-GREATEST_LEDGER_TEXT-clause-text c = (no_room greatest_ledger_text _ _ c.if-text-lt-GREATEST_LEDGER_TEXT.true).1

pub returns : goal.returns
returns c =
    let put = put_at_start c.put_ledger.ensures in
    let both = reply_stands greatest_ledger_text _ _ c.if-text-lt-GREATEST_LEDGER_TEXT.false record { count_is = ap Some put.0; bytes_are = put.1 } in
    record { reply = both.0; text = both.1 }
