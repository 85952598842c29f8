-- `decimal_text::signed` meets its contract: by the first code. The part behind it is all that follows it.
use Rattle.std.proofs.Common.{sym, ap, ◌∙◌}
use Rattle.std.specs.Option.{option_and_then}
use Rattle.decimal_text.specs.Spelled.{natural_in, above_zero, below_zero}
use Rattle.decimal_text.proofs.SpelledCases.{minus_first, no_minus_first, begins_with_minus, begins_without_minus, and_then_is}
use Rattle.decimal_text.proofs.signed.Goals as goal

pub returns-in-Some : goal.returns-in-Some
returns-in-Some c =
    let text = c.args.text.now in
    let first = c.in-Some.ensures.cases in
    and_then_is below_zero _ _ c.and_then.ensures
    ∙ ap (option_and_then below_zero) (c.natural.ensures ∙ ap natural_in first.1)
    ∙ sym (minus_first text (begins_with_minus text first.0))

pub returns-in-None : goal.returns-in-None
returns-in-None c =
    let text = c.args.text.now in
    and_then_is above_zero _ _ c.and_then-in-None.ensures
    ∙ ap (option_and_then above_zero) c.natural-in-None.ensures
    ∙ sym (no_minus_first text (begins_without_minus text c.in-None.ensures.cases))
