-- `decimal_text::natural` meets its contract: the digits that are left, read after the number so far, give the number of the whole text.
use Rattle.std.proofs.Common.{sym, ◌∙◌, ap, arith, ◌+◌, ℕ, Option, Some, drop, false-eqb}
use Rattle.decimal_text.specs.DigitByDigit.{with_digits}
use Rattle.decimal_text.proofs.DigitByDigit.{spelled, one_read, all_read, none_left}
use Rattle.decimal_text.proofs.natural.Goals as goal

pub returns-in_err-number : goal.returns-in_err-number
returns-in_err-number c =
    let loop = c.loop-code in
    let text = c.args.text.now in
    let rest = drop (loop.code-index + 1) text in
    rw c.from_residual.ensures
    (sym (none_left rest)
    ∙ ap (λ (n : Option ℕ). with_digits n rest) c.in_err-number.ensures
    ∙ one_read text loop.number loop.code-index (with_digits (Some 0) text) (omega arith) loop.invariant
    ∙ spelled text (false-eqb _ _ c.if-is_empty.ensures))

pub loop-code-preserved : goal.loop-code-preserved
loop-code-preserved c =
    let loop = c.loop-code in
    let text = c.args.text.now in
    rw c.in_ok-number.ensures (one_read text loop.number loop.code-index (with_digits (Some 0) text) (omega arith) loop.invariant)

pub returns : goal.returns
returns c =
    let loop = c.loop-code in
    let text = c.args.text.now in
    all_read text loop.number loop.code-index (with_digits (Some 0) text) (omega arith) loop.invariant
    ∙ spelled text (false-eqb _ _ c.if-is_empty.ensures)
