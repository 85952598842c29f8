-- `text_pieces::put_whole` meets its contract: the bytes at the place are the piece's.
use Rattle.std.proofs.Common.{arith}
use Rattle.text_pieces.proofs.Put.{put_over}
use Rattle.text_pieces.proofs.put_whole.Goals as goal

pub returns : goal.returns
returns c =
    let u = c.args in
    let piece = u.piece.now in
    let r = c.requires.holds in
    record { ends = omega arith; inside = omega (arith, r); bytes = put_over u.text.now piece _ u.at _ c.copy_from_slice.ensures.after (omega arith) r }
