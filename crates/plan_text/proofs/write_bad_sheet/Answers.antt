-- `plan_text::write_bad_sheet` meets its contract: the line whole, or nothing.
use mathlib.Core.Path.{sym, ◌∙◌}
use Rattle.plan_text.specs.AllOrNothing.{room_for, whole_written, nothing_written}
use Rattle.text_pieces.proofs.Put.{put_whole}
use Rattle.text_rule.specs.Text.{bad_sheet_text}
use Rattle.text_rule.proofs.TextLengths.{bad_sheet_short}
use Rattle.plan_text.proofs.write_bad_sheet.Goals as goal

pub returns-then-not-has_room-clause-count : goal.returns-then-not-has_room-clause-count
returns-then-not-has_room-clause-count c = (nothing_written c.args.text.now bad_sheet_text (sym c.has_room.ensures ∙ c.if-not-has_room.true)).0

pub returns-then-not-has_room-clause-bytes : goal.returns-then-not-has_room-clause-bytes
returns-then-not-has_room-clause-bytes c = (nothing_written c.args.text.now bad_sheet_text (sym c.has_room.ensures ∙ c.if-not-has_room.true)).1

pub returns-clause-count : goal.returns-clause-count
returns-clause-count c =
    let known = sym c.has_room.ensures ∙ c.if-not-has_room.false in
    let put = c.put_text.ensures in
    (whole_written known (put_whole (room_for _ _ bad_sheet_text known bad_sheet_short) (put.end, put.bytes))).0

pub returns-clause-bytes : goal.returns-clause-bytes
returns-clause-bytes c =
    let known = sym c.has_room.ensures ∙ c.if-not-has_room.false in
    let put = c.put_text.ensures in
    (whole_written known (put_whole (room_for _ _ bad_sheet_text known bad_sheet_short) (put.end, put.bytes))).1
