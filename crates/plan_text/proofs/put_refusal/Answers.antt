-- `plan_text::put_refusal` meets its contract: the word with the number, the other three, the line feed.
use Rattle.text_pieces.specs.Pieces.{line_feed, spaced}
use Rattle.text_pieces.specs.Put.{first, more}
use Rattle.text_pieces.proofs.Put.{chain_put}
use Rattle.text_rule.specs.Text.{refused_text}
use Rattle.plan_text.proofs.put_refusal.Goals as goal

pub returns : goal.returns
unfolding refused_text spaced
returns c =
    let told = c.args.answer in
    let n = c.put_number-after_number.ensures in
    let a = c.put_number-after_a.ensures in
    let b = c.put_number-after_b.ensures in
    let need = c.put_number-after_need.ensures in
    let l = c.put_text.ensures in
    let to_a = more (spaced told.a) (first _ (n.end, n.bytes)) (a.end, a.bytes) in
    let to_need = more (spaced told.need) (more (spaced told.b) to_a (b.end, b.bytes)) (need.end, need.bytes) in
    chain_put (more line_feed to_need (l.end, l.bytes)) c.requires
