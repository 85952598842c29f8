-- `request_sheet::write_shapes` meets its contract: the table of requests has room for all rows, so that the shapes alone decide.
use mathlib.Core.List.{List, []}
use mathlib.Core.Path.{sym, ◌∙◌, ap}
use native.Mathlib.Omega.{arith}
use lib.IntN.{ℤ}
use Rattle.answer.specs.Answer.{number_of}
use Rattle.reply_rule.proofs.Replies.{shapes_refused, shapes_sized}
use Rattle.reply_rule.specs.Reply.{table_text}
use Rattle.request_table.specs.Table.{rows}
use Rattle.shape_rule.proofs.SizedRows.{sized_rows}
use Rattle.text_pieces.proofs.Replied.{stands_as}
use Rattle.text_rule.specs.Text.{refused_text, offset_in}
use Rattle.text_rule.proofs.TextCases.{refused_text_lem}
use Rattle.request_sheet.proofs.Lent.{as_filled, judged, requests_lent}
use Rattle.request_sheet.proofs.Writing.{written}
use Rattle.request_sheet.proofs.write_shapes.Goals as goal

pub write_plan-requires : goal.write_plan-requires
write_plan-requires c =
    let t = c.args.shapes.now in
    let p = c.requires in
    let lent = requests_lent t c.filled-requests.result p.0 p.1 (as_filled c.filled-requests.ensures) c.from_shapes-answer.ensures.answer c.from_shapes-answer.ensures.table c.if-answer-ne-DONE.false in
    (omega (arith, ap rows lent, sized_rows t, p.1), p.2)

pub returns-then-answer-ne-DONE : goal.returns-then-answer-ne-DONE
returns-then-answer-ne-DONE c =
    let t = c.args.shapes.now in
    let p = c.requires in
    let j = judged t c.filled-requests.result p.0 p.1 (as_filled c.filled-requests.ensures) c.from_shapes-answer.ensures.answer in
    let told =
    refused_text_lem c.from_shapes-answer.result (offset_in []) 0 c.if-answer-ne-DONE.true
    ∙ ap refused_text j
    ∙ shapes_refused t c.args.space (λ z. c.if-answer-ne-DONE.true (ap number_of j ∙ z)) in
    stands_as told (written {n = 0} (omega arith) p.2 c.write_answer.ensures.count c.write_answer.ensures.bytes)

pub returns : goal.returns
returns c =
    let t = c.args.shapes.now in
    let p = c.requires in
    let j = judged t c.filled-requests.result p.0 p.1 (as_filled c.filled-requests.ensures) c.from_shapes-answer.ensures.answer in
    let lent = requests_lent t c.filled-requests.result p.0 p.1 (as_filled c.filled-requests.ensures) c.from_shapes-answer.ensures.answer c.from_shapes-answer.ensures.table c.if-answer-ne-DONE.false in
    stands_as (ap (λ (xs : List ℤ). table_text xs c.args.space) lent ∙ shapes_sized t c.args.space (sym (ap number_of j) ∙ c.if-answer-ne-DONE.false)) c.write_plan.ensures
