-- `plan_text::put_row` meets its contract: the row, the offset, the line feed.
use Rattle.text_pieces.specs.Pieces.{line_feed, spaced}
use Rattle.text_pieces.specs.Put.{first, more}
use Rattle.text_pieces.proofs.Put.{chain_put}
use Rattle.text_rule.specs.Text.{row_line}
use Rattle.plan_text.proofs.put_row.Goals as goal

pub returns : goal.returns
unfolding row_line spaced
returns c =
    let r = c.put_number-after_row.ensures in
    let o = c.put_number-after_offset.ensures in
    let l = c.put_text.ensures in
    chain_put (more line_feed (more (spaced c.args.offset) (first _ (r.end, r.bytes)) (o.end, o.bytes)) (l.end, l.bytes)) c.requires
