-- `requests::check` meets its contract: a refusal of the first three stands, and past them the other two decide.
use Rattle.std.proofs.Common.{sym, ◌∙◌, ap, rules}
use Rattle.std.specs.Prelude.{◌≡◌, Err}
use Rattle.answer.specs.Answer.{number_of}
use Rattle.answer.proofs.Told.{refusal_refuses}
use Rattle.request_table.proofs.CheckLaws.{shape_passed, shape_refused, content_decides}
use Rattle.requests.proofs.check.Goals as goal

pub returns-in_err-check_shape : goal.returns-in_err-check_shape
returns-in_err-check_shape c =
    let told = c.in_err-check_shape.ensures in
    let r : c.from_residual.result ≡ Err c.in_err-check_shape.field-0.0 = search rules in
    rw r (told ∙ shape_refused _ _ c.args.table.now.grid _ (refusal_refuses _ told))

pub check_content-requires : goal.check_content-requires
check_content-requires c = (shape_passed _ _ (ap number_of (sym (c.in_ok-check_shape.ensures)))).few

pub returns : goal.returns
returns c = c.check_content.ensures ∙ content_decides _ _ _ _ (shape_passed _ _ (ap number_of (sym (c.in_ok-check_shape.ensures))))
