-- `text_pieces::put_text` meets its contract: the piece whole, or nothing.
use mathlib.Core.Path.{sym, ◌∙◌}
use Rattle.text_pieces.proofs.Put.{room_says, nothing_put, whole_put}
use Rattle.text_pieces.proofs.put_text.Goals as goal

pub returns-then-not-has_room-clause-end : goal.returns-then-not-has_room-clause-end
returns-then-not-has_room-clause-end c =
    let a = c.args in
    (nothing_put a.text.now a.piece.now a.at (sym c.has_room.ensures ∙ c.if-not-has_room.true)).0

pub returns-then-not-has_room-clause-bytes : goal.returns-then-not-has_room-clause-bytes
returns-then-not-has_room-clause-bytes c =
    let a = c.args in
    (nothing_put a.text.now a.piece.now a.at (sym c.has_room.ensures ∙ c.if-not-has_room.true)).1

pub put_whole-requires : goal.put_whole-requires
put_whole-requires c =
    let a = c.args in
    room_says a.text.now a.piece.now a.at (sym c.has_room.ensures ∙ c.if-not-has_room.false)

pub returns-clause-end : goal.returns-clause-end
returns-clause-end c = (whole_put c.put_whole.ensures).0

pub returns-clause-bytes : goal.returns-clause-bytes
returns-clause-bytes c = (whole_put c.put_whole.ensures).1
