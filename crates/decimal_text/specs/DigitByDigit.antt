-- The number of a text, digit by digit, as it is read. Where a digit leaves no number, all that follow it leave none: so a text that spells no number is
-- told without a look back. `spelled` says that what is left in the end is the number that the text spells.
use Rattle.std.specs.Prelude.{ℕ, ◌+◌, ◌-◌, ◌*◌, true, false, List, [], ◌∷◌, Option, None}
use Rattle.std.specs.Option.{option_and_then}
use Rattle.decimal_text.specs.Spelled.{is_digit, held}

-- The number with one digit more.
unfoldable pub with_digit : ℕ → ℕ → Option ℕ
with_digit number code = elim (is_digit code) [ true ↦ held (10 * number + (code - 48)) | false ↦ None ]

-- The number with all digits of a text.
unfoldable pub with_digits : Option ℕ → List ℕ → Option ℕ
with_digits number [] = number
with_digits number (code ∷ text) = with_digits (option_and_then (λ n. with_digit n code) number) text
