-- `plan_text::put_head` meets its contract: the word with the need, the line feed.
use Rattle.text_pieces.specs.Pieces.{line_feed, spaced}
use Rattle.text_pieces.specs.Put.{first, more}
use Rattle.text_pieces.proofs.Put.{chain_put}
use Rattle.text_rule.specs.Text.{head_line}
use Rattle.plan_text.proofs.put_head.Goals as goal

pub returns : goal.returns
unfolding head_line spaced
returns c =
    let n = c.put_number-after_need.ensures in
    let l = c.put_text.ensures in
    chain_put (more line_feed (first _ (n.end, n.bytes)) (l.end, l.bytes)) c.requires
