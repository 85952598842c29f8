-- `text_pieces::put_number` meets its contract: the bytes and what `io::decimal` made, or nothing.
use Rattle.std.proofs.Common.{ℕ, ◌+◌, ◌^◌, ◌<◌, Bool, List, ◌++◌, ◌≡◌, sym, ◌∙◌, ap, arith, length, take, length-append}
use Rattle.io.specs.Counts.{IsPrefixLen}
use Rattle.io.specs.Digits.{last_digits, IsDigitCount}
use Rattle.decimal_text.specs.Decimal.{greatest_places, decimal}
use Rattle.decimal_text.proofs.Decimals.{decimal_of}
use Rattle.text_pieces.specs.Put.{has_room}
use Rattle.text_pieces.proofs.Put.{room_says, room_first, room_next, put_both, nothing_put, whole_put}
use Rattle.text_pieces.proofs.put_number.Goals as goal

-- what was asked of the room for the digits that were made was asked for the bytes and the text together
asked : (t before out : List ℕ) (at k n : ℕ) (r b : Bool) → n < 10 ^ greatest_places → IsPrefixLen k out → IsDigitCount 10 1 n k → take k out ≡ last_digits 10 k n
    → r ≡ has_room (length t) at (length before + k) → r ≡ b → has_room (length t) at (length (before ++ decimal n)) ≡ b
asked t before out at k n r b l p d e q f =
    let long : length before + k ≡ length (before ++ decimal n) = omega (arith, p.1, ap length (e ∙ decimal_of n k l d), length-append before (decimal n)) in
    ap (has_room (length t) at) (sym long) ∙ sym q ∙ f

pub returns-then-not-has_room-clause-end : goal.returns-then-not-has_room-clause-end
returns-then-not-has_room-clause-end c =
    let d = c.decimal-count.ensures in
    (nothing_put _ _ _ (asked _ _ _ _ _ _ _ _ (omega arith) d.in_bounds d.len d.digits c.has_room.ensures c.if-not-has_room.true)).0

pub returns-then-not-has_room-clause-bytes : goal.returns-then-not-has_room-clause-bytes
returns-then-not-has_room-clause-bytes c =
    let d = c.decimal-count.ensures in
    (nothing_put _ _ _ (asked _ _ _ _ _ _ _ _ (omega arith) d.in_bounds d.len d.digits c.has_room.ensures c.if-not-has_room.true)).1

pub put_whole-after_bytes-requires : goal.put_whole-after_bytes-requires
put_whole-after_bytes-requires c =
    let d = c.decimal-count.ensures in
    room_first _ (decimal _)
    (room_says _ _ _ (asked _ _ _ _ _ c.args.number _ _ (omega arith) d.in_bounds d.len d.digits c.has_room.ensures c.if-not-has_room.false))

pub put_whole-requires : goal.put_whole-requires
put_whole-requires c =
    let d = c.decimal-count.ensures in
    -- the digits are the number's text
    let made = d.digits ∙ decimal_of c.args.number c.decimal-count.result (omega arith) d.len in
    rw made
    (room_next _ c.put_whole-after_bytes.ensures
    (room_says _ _ _ (asked _ _ _ _ _ c.args.number _ _ (omega arith) d.in_bounds d.len d.digits c.has_room.ensures c.if-not-has_room.false)))

pub returns-clause-end : goal.returns-clause-end
returns-clause-end c =
    let d = c.decimal-count.ensures in
    let made = d.digits ∙ decimal_of c.args.number c.decimal-count.result (omega arith) d.len in
    (whole_put (put_both c.put_whole-after_bytes.ensures (rw made at c.put_whole.ensures))).0

pub returns-clause-bytes : goal.returns-clause-bytes
returns-clause-bytes c =
    let d = c.decimal-count.ensures in
    let made = d.digits ∙ decimal_of c.args.number c.decimal-count.result (omega arith) d.len in
    (whole_put (put_both c.put_whole-after_bytes.ensures (rw made at c.put_whole.ensures))).1
