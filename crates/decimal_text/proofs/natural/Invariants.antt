-- `decimal_text::natural` meets its contract: the digits that are left, read after the number so far, give the number of the whole text.
use Rattle.std.proofs.Common.{◌≡◌, drop, Some}
use Rattle.decimal_text.specs.DigitByDigit.{with_digits}
use Rattle.decimal_text.proofs.natural.Given as goal

abbrev pub invariant-loop-code : goal.invariant-loop-code
invariant-loop-code l = with_digits (Some l.number) (drop l.code-index l.text) ≡ with_digits (Some 0) l.text
