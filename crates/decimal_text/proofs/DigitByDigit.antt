-- Laws of the definitions of specs/DigitByDigit.antt.
use Rattle.std.specs.Prelude.{◌≡◌, ℕ, ◌+◌, ◌-◌, ◌*◌, ◌<◌, ◌≤◌, Bool, true, false, ◌&&◌, ◌⊎◌, List, [], ◌∷◌, length, drop, ◌≢◌, nat_le, slice_index, Option, Some, None, refl}
use Rattle.std.proofs.Common.{inl, inr, ⊎_elim, sym, ◌∙◌, ap, add-one, arith, le-leb, drop_of_length-le, drop-cons, lt-ltb, le-ltb}
use Rattle.std.proofs.lemmas.Bool.{lt-leb}
use Rattle.std.specs.Option.{option_and_then}
use Rattle.bounded.proofs.Boolean.{lt_or_le, both_hold}
use Rattle.decimal_text.specs.Spelled.{number_limit, is_digit, all_digits, value_after, value_of, held, natural_in}
use Rattle.decimal_text.specs.DigitByDigit.{with_digit, with_digits}

-- ---- one digit

-- A code from 48 to 57 is a digit's,
pub digit_of : (code : ℕ) → 48 ≤ code → code ≤ 57 → is_digit code ≡ true
unfolding is_digit
digit_of code l h = both_hold (nat_le 48 code) (nat_le code 57) (le-leb 48 code l) (le-leb code 57 h)

-- and no other.
pub no_digit_of : (code : ℕ) → (code < 48) ⊎ (57 < code) → is_digit code ≡ false
unfolding is_digit
no_digit_of code (inl h) = rw (lt-leb 48 code h)
no_digit_of code (inr h) = rw (le-leb 48 code (omega arith), lt-leb code 57 h)

-- A number below the limit is held,
pub held_below : (n : ℕ) → n < number_limit → held n ≡ Some n
unfolding held
held_below n h = rw (held, lt-ltb n number_limit h)

-- and no other.
pub held_past : (n : ℕ) → number_limit ≤ n → held n ≡ None
unfolding held
held_past n h = rw (held, le-ltb n number_limit h)

-- A code that is no digit's leaves no number,
pub digit_none : (number code : ℕ) → (code < 48) ⊎ (57 < code) → None ≡ with_digit number code
unfolding with_digit
digit_none number code h = rw (with_digit, no_digit_of code h)

-- and a digit is put behind the number, where that is held.
pub digit_more : (number digit : ℕ) → digit ≤ 9 → held (number * 10 + digit) ≡ with_digit number (digit + 48)
unfolding with_digit
digit_more number digit l =
    let e : number * 10 + digit ≡ 10 * number + (digit + 48 - 48) = omega arith in
    rw (with_digit, digit_of (digit + 48) (omega arith) (omega arith), e)

-- ---- all digits

-- The value never falls.
value_holds : (text : List ℕ) (value : ℕ) → value ≤ value_after value text
unfolding value_after
value_holds [] value = omega arith
value_holds (code ∷ text) value = omega (arith, value_holds text (10 * value + (code - 48)))

-- Where there is no number, no digit makes one.
pub none_left : (text : List ℕ) → with_digits None text ≡ None
unfolding with_digits
none_left [] = refl
none_left (code ∷ text) = none_left text

-- A number that is not held makes none that is.
past_after : (text : List ℕ) (number : ℕ) → number_limit ≤ number
    → ◌≡◌ {A = Option ℕ} (elim (all_digits text) [ true ↦ held (value_after number text) | false ↦ None ]) None
past_after text number l = go (all_digits text)
  where
    go : (b : Bool) → ◌≡◌ {A = Option ℕ} (elim b [ true ↦ held (value_after number text) | false ↦ None ]) None
    go true = held_past (value_after number text) (omega (arith, value_holds text number))
    go false = refl

-- Of a number that is held, one digit more, and the digits behind it.
digits_after : (number code : ℕ) (text : List ℕ) → number < number_limit
    → with_digits (held number) (code ∷ text) ≡ with_digits (elim (is_digit code) [ true ↦ held (10 * number + (code - 48)) | false ↦ None ]) text
unfolding with_digits with_digit
digits_after number code text l = ap (λ (n : Option ℕ). with_digits (option_and_then (λ m. with_digit m code) n) text) (held_below number l)

spelled_after : (text : List ℕ) (number : ℕ) → with_digits (held number) text ≡ elim (all_digits text) [ true ↦ held (value_after number text) | false ↦ None ]
unfolding with_digits all_digits value_after
spelled_after [] number = refl
spelled_after (code ∷ text) number =
    ⊎_elim
    (λ (l : number < number_limit).
    digits_after number code text l ∙ go (10 * number + (code - 48)) (is_digit code) (spelled_after text (10 * number + (code - 48))))
    (λ (l : number_limit ≤ number).
    ap (λ (n : Option ℕ). with_digits n (code ∷ text)) (held_past number l) ∙ none_left (code ∷ text) ∙ sym (past_after (code ∷ text) number l))
    (lt_or_le number number_limit)
  where
    go : (more : ℕ) (b : Bool)
        → with_digits (held more) text ≡ elim (all_digits text) [ true ↦ held (value_after more text) | false ↦ None ]
        → with_digits (elim b [ true ↦ held more | false ↦ None ]) text
        ≡ elim (b && all_digits text) [ true ↦ held (value_after more text) | false ↦ None ]
    go more true e = e
    go more false e = none_left text

-- All digits of a text that is not empty give the number that it spells.
pub spelled : (text : List ℕ) → (length text ≢ 0) → with_digits (Some 0) text ≡ natural_in text
unfolding natural_in value_of
spelled [] h = absurd (h refl)
spelled (code ∷ text) h = ap (λ (n : Option ℕ). with_digits n (code ∷ text)) (sym (held_below 0 (omega arith))) ∙ spelled_after (code ∷ text) 0

-- The empty text spells none.
pub empty_spells_none : (text : List ℕ) → length text ≡ 0 → None ≡ natural_in text
unfolding natural_in
empty_spells_none [] e = refl
empty_spells_none (code ∷ text) e = absurd (omega arith)

-- ---- the turns of a loop

-- One digit more is read, and the rest is left to be read after it.
pub one_read : (text : List ℕ) (number at : ℕ) (whole : Option ℕ) → at < length text → with_digits (Some number) (drop at text) ≡ whole
    → with_digits (with_digit number (slice_index text at)) (drop (at + 1) text) ≡ whole
unfolding with_digits
one_read text number at whole l e = rw (add-one at) (rw (drop-cons text at 0 l) at e)

-- Nothing is left.
pub all_read : (text : List ℕ) (number at : ℕ) (whole : Option ℕ) → length text ≤ at → with_digits (Some number) (drop at text) ≡ whole
    → Some number ≡ whole
unfolding with_digits
all_read text number at whole l e = rw (drop_of_length-le text l) at e
