-- Numbers that a text spells, in plain terms: what is written in decimal is read as the same number, and every signed number that is read fits 32 bits.
use Rattle.std.specs.Prelude.{◌≡◌, ℕ, zero, suc, ◌+◌, ◌^◌, ◌<◌, ◌≤◌, true, List, [], ◌∷◌, length, drop, ℤ, pos, negsuc, Some, None, slice_index, slice_index_or, refl}
use Rattle.std.proofs.Common.{⊎_elim, sym, ◌∙◌, ap, add-one, arith}
use Rattle.std.proofs.lemmas.Option.{none-some, same_Some, option_and_then_some}
use Rattle.std.specs.Option.{option_and_then}
use Rattle.std.specs.Int.Signed.{mag}
use Rattle.bounded.proofs.Boolean.{both_hold, lt_or_le, same_or_not}
use Rattle.decimal_text.specs.Decimal.{decimal}
use Rattle.decimal_text.specs.Decimals.{IsDigit}
use Rattle.decimal_text.proofs.Decimals.{fewest, decimal_long, decimal_digits, decimal_read_back}
use Rattle.decimal_text.proofs.DigitByDigit.{digit_of, held_below, held_past}
use Rattle.decimal_text.specs.Spelled.{number_limit, is_digit, all_digits, value_of, natural_in, below, above_zero, below_zero, signed_in}
use Rattle.decimal_text.proofs.SpelledCases.{above_held, above_not_held, below_held, below_not_held, minus_first, no_minus_first}

-- ---- natural numbers

-- A text whose every code is a digit's is all digits.
pub all_digits_lem : (text : List ℕ) → ((i : ℕ) → i < length text → IsDigit (slice_index text i)) → all_digits text ≡ true
unfolding all_digits
all_digits_lem [] f = refl
all_digits_lem (code ∷ text) f =
    let first = f 0 (omega arith) in
    both_hold (is_digit code) (all_digits text) (digit_of code first.low first.high) (all_digits_lem text (λ i h. f (suc i) (omega arith)))

-- One digit or more spell their value.
pub digits_spell : (text : List ℕ) → 0 < length text → all_digits text ≡ true → value_of text < number_limit → natural_in text ≡ Some (value_of text)
unfolding natural_in
digits_spell [] h e l = absurd (omega arith)
digits_spell (code ∷ text) h e l = rw (natural_in, e) (held_below (value_of (code ∷ text)) l)

-- A value that is past the range is none.
pub too_large : (text : List ℕ) → all_digits text ≡ true → number_limit ≤ value_of text → natural_in text ≡ None
unfolding natural_in
too_large [] e l = refl
too_large (code ∷ text) e l = rw (natural_in, e) (held_past (value_of (code ∷ text)) l)

decimal_some : (n : ℕ) → n < number_limit → 0 < length (decimal n)
decimal_some n h = omega (arith, decimal_long n, (fewest n (omega arith)).0)

-- A number written in decimal is read as that number.
pub natural_of_decimal : (n : ℕ) → n < number_limit → natural_in (decimal n) ≡ Some n
natural_of_decimal n h =
    let back = decimal_read_back n (omega arith) in
    digits_spell (decimal n) (decimal_some n h) (all_digits_lem (decimal n) (decimal_digits n)) (rw back (omega arith)) ∙ ap Some back

-- ---- signed numbers

-- So is a signed number from 0 on,
pub signed_of_decimal : (n : ℕ) → n < 2 ^ 31 → signed_in (decimal n) ≡ Some (pos n)
signed_of_decimal n h =
    let first = decimal_digits n 0 (decimal_some n (omega arith)) in
    no_minus_first (decimal n) (λ e. omega (arith, first.low))
    ∙ ap (option_and_then above_zero) (natural_of_decimal n (omega arith))
    ∙ above_held n (omega arith)

-- and one below 0 with a minus sign before it.
pub signed_of_negative : (n : ℕ) → n < 2 ^ 31 → signed_in (45 ∷ decimal (n + 1)) ≡ Some (negsuc n)
unfolding below
signed_of_negative n h =
    minus_first (45 ∷ decimal (n + 1)) refl
    ∙ ap (option_and_then below_zero) (natural_of_decimal (n + 1) (omega arith))
    ∙ below_held (n + 1) (omega arith)
    ∙ rw (add-one n)

above_fits : (n : ℕ) (z : ℤ) → above_zero n ≡ Some z → mag z < 2 ^ 31
above_fits n z e =
    ⊎_elim
    (λ (h : 2147483647 < n). absurd (none-some z (sym (above_not_held n h) ∙ e)))
    (λ (l : n ≤ 2147483647). rw (← same_Some (pos n) z (sym (above_held n l) ∙ e)) (omega arith))
    (lt_or_le 2147483647 n)

below_small : (n : ℕ) → n ≤ 2147483648 → mag (below n) < 2 ^ 31
unfolding below
below_small zero l = omega arith
below_small (suc n) l = omega arith

below_fits : (n : ℕ) (z : ℤ) → below_zero n ≡ Some z → mag z < 2 ^ 31
below_fits n z e =
    ⊎_elim
    (λ (h : 2147483648 < n). absurd (none-some z (sym (below_not_held n h) ∙ e)))
    (λ (l : n ≤ 2147483648). rw (← same_Some (below n) z (sym (below_held n l) ∙ e)) (below_small n l))
    (lt_or_le 2147483648 n)

-- Every number that is read fits 32 bits.
pub word_fits : (text : List ℕ) (z : ℤ) → signed_in text ≡ Some z → mag z < 2 ^ 31
word_fits text z e =
    ⊎_elim
    (λ (q : slice_index_or text 0 0 ≡ 45).
    option_and_then_some below_zero (natural_in (drop 1 text)) z (sym (minus_first text q) ∙ e) (λ n r. below_fits n z))
    (λ (f : slice_index_or text 0 0 ≡ 45 → ⊥).
    option_and_then_some above_zero (natural_in text) z (sym (no_minus_first text f) ∙ e) (λ n r. above_fits n z))
    (same_or_not (slice_index text 0) 45)
