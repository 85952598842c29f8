-- `plan_text::put_plan` meets its contract: the head's line, then the rows'.
use native.Mathlib.Omega.{arith}
use Rattle.plan_text.specs.AllOrNothing.{room_says}
use Rattle.text_pieces.proofs.Put.{put_both, put_length}
use Rattle.text_rule.specs.Text.{plan_text}
use Rattle.text_rule.proofs.TextLengths.{head_short}
use Rattle.plan_text.proofs.put_plan.Goals as goal

pub put_head-after_head-requires : goal.put_head-after_head-requires
put_head-after_head-requires c =
    let start = c in
    record { holds = omega (arith, head_short start.args.need, (room_says _ _ start.requires).1) }

pub put_rows-requires : goal.put_rows-requires
put_rows-requires c =
    let start = c in
    let put = c.put_head-after_head.ensures in
    let room = room_says _ _ start.requires in
    (room.0, omega (arith, head_short start.args.need, room.0, room.1, put.ends, put_length put))

pub returns : goal.returns
unfolding plan_text
returns c = put_both c.put_head-after_head.ensures c.put_rows.ensures
