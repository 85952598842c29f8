-- Laws of the definitions of specs/Decimals.antt.
use Rattle.std.specs.Prelude.{◌≡◌, ℕ, zero, suc, ◌+◌, ◌-◌, ◌*◌, ◌/◌, ◌%◌, ◌^◌, ◌<◌, ◌≤◌, List, [], ◌∷◌, ◌++◌, length, nat_lt, slice_index, refl}
use Rattle.std.proofs.Common.{⊎_elim, ◌∙◌, le_trans, eq-or-lt_of_le, arith, lt-ltb, le-ltb, ltb-true, ltb-false, length-append}
use Rattle.std.proofs.Math.Nat.{pow-le-pow_right}
use Rattle.std.proofs.Math.ListN.{get_or-append}
use Rattle.std.proofs.lemmas.List.{get_or_at}
use Rattle.bounded.proofs.Boolean.{lt_or_le, contrary}
use Rattle.bounded.specs.First.{IsFirst}
use Rattle.bounded.proofs.First.{first_is, one_first}
use Rattle.io.specs.Digits.{hex_digit_ascii, last_digits, IsDigitCount}
use Rattle.decimal_text.specs.Decimal.{greatest_places, places, decimal}
use Rattle.decimal_text.specs.Spelled.{value_after, value_of}
use Rattle.decimal_text.specs.Decimals.{IsDigit}

places_first : (n : ℕ) → IsFirst (λ k. nat_lt n (10 ^ k)) 1 greatest_places (places n)
unfolding places
places_first n = first_is (λ k. nat_lt n (10 ^ k)) 1 greatest_places (omega arith)

-- No number has more digits than the greatest.
pub places_bounded : (n : ℕ) → places n ≤ greatest_places
places_bounded n = (places_first n).high

-- A number below a power of ten has no more digits than that power.
pub places_at_most : (n k : ℕ) → 1 ≤ k → n < 10 ^ k → places n ≤ k
places_at_most n k l h =
    ⊎_elim
    (λ (m : k < places n). contrary (lt-ltb n (10 ^ k) h) ((places_first n).before k l m))
    (λ m. m)
    (lt_or_le k (places n))

-- Digits that are the fewest to hold a number are as many as it has.
pub places_of : (n k : ℕ) → k ≤ greatest_places → IsDigitCount 10 1 n k → places n ≡ k
unfolding places
places_of n k l f =
    one_first (λ j. nat_lt n (10 ^ j)) 1 greatest_places k
    record {
      low = f.0;
      high = l;
      before = λ j m b. le-ltb n (10 ^ j) (le_trans (pow-le-pow_right {n = 10} (omega arith) {i = j} {j = k - 1} (omega arith)) (f.2 (omega arith)));
      at = λ b. lt-ltb n (10 ^ k) f.1;
    }

-- The fewest digits that hold a number below 10 ^ 20 are 20 at most.
pub fewest_bounded : (n k : ℕ) → n < 10 ^ greatest_places → IsDigitCount 10 1 n k → k ≤ greatest_places
fewest_bounded n k h f =
    ⊎_elim
    (λ (m : greatest_places < k).
    absurd (omega (arith, h, f.2 (omega arith), pow-le-pow_right {n = 10} (omega arith) {i = greatest_places} {j = k - 1} (omega arith))))
    (λ m. m)
    (lt_or_le greatest_places k)

-- A number below 10 ^ 20 has the fewest digits that hold it.
pub fewest : (n : ℕ) → n < 10 ^ greatest_places → IsDigitCount 10 1 n (places n)
fewest n h =
    let f = places_first n in (
      f.low,
      ⊎_elim
          (λ (m : places n < greatest_places). ltb-true n (10 ^ places n) (f.at m))
          (λ (m : greatest_places ≤ places n). let e : places n ≡ greatest_places = omega (arith, f.high) in rw e h)
          (lt_or_le (places n) greatest_places),
      λ l. ltb-false n (10 ^ (places n - 1)) (f.before (places n - 1) (omega arith) (omega arith)),
    )

-- ---- the text

digits_long : (k n : ℕ) → length (last_digits 10 k n) ≡ k
digits_long zero n = refl
digits_long (suc k) n = omega (arith, length-append (last_digits 10 k (n / 10)) (hex_digit_ascii (n % 10) ∷ []), digits_long k (n / 10))

-- The text has so many digits.
pub decimal_long : (n : ℕ) → length (decimal n) ≡ places n
unfolding decimal
decimal_long n = digits_long (places n) n

-- The digits that the fewest give are the text.
pub decimal_of : (n k : ℕ) → n < 10 ^ greatest_places → IsDigitCount 10 1 n k → last_digits 10 k n ≡ decimal n
unfolding decimal
decimal_of n k h f = rw (places_of n k (fewest_bounded n k h f) f)

-- ---- read back

value_more : (text : List ℕ) (value code : ℕ) → value_after value (text ++ (code ∷ [])) ≡ 10 * value_after value text + (code - 48)
unfolding value_after
value_more [] value code = refl
value_more (x ∷ text) value code = value_more text (10 * value + (x - 48)) code

glyph_is : (n : ℕ) → hex_digit_ascii (n % 10) ≡ 48 + n % 10
glyph_is n = let h : n % 10 < 10 = omega arith in rw (lt-ltb (n % 10) 10 h)

digits_value : (k n : ℕ) → n < 10 ^ k → value_after 0 (last_digits 10 k n) ≡ n
unfolding value_after
digits_value zero n h = omega arith
digits_value (suc k) n h =
    value_more (last_digits 10 k (n / 10)) 0 (hex_digit_ascii (n % 10))
    ∙ omega (arith, digits_value k (n / 10) (omega arith), glyph_is n)

-- The text read back is the number.
pub decimal_read_back : (n : ℕ) → n < 10 ^ greatest_places → value_of (decimal n) ≡ n
unfolding value_of decimal
decimal_read_back n h = digits_value (places n) n (fewest n h).1

last_code : (text : List ℕ) (k code i : ℕ) → length text ≡ k → (i < k → IsDigit (slice_index text i)) → IsDigit code → i < suc k
    → IsDigit (slice_index (text ++ (code ∷ [])) i)
last_code text k code i e before here h =
    ⊎_elim
    (λ (q : i ≡ k). rw (q, get_or_at text code [] 0 k e) here)
    (λ (l : i < k). rw (get_or-append text (code ∷ []) 0 i (rw e l)) (before l))
    (eq-or-lt_of_le (omega arith))

digits_codes : (k n i : ℕ) → i < k → IsDigit (slice_index (last_digits 10 k n) i)
digits_codes zero n i h = absurd (omega arith)
digits_codes (suc k) n i h =
    last_code (last_digits 10 k (n / 10)) k (hex_digit_ascii (n % 10)) i (digits_long k (n / 10)) (digits_codes k (n / 10) i)
    (rw (glyph_is n) record { low = omega arith; high = omega arith }) h

-- Every code of the text is a digit's.
pub decimal_digits : (n i : ℕ) → i < length (decimal n) → IsDigit (slice_index (decimal n) i)
unfolding decimal
decimal_digits n i h = digits_codes (places n) n i (rw (decimal_long n) at h)

-- A text of two digits or more is of a number that no fewer hold: it has no zero in front.
pub no_leading_zero : (n : ℕ) → 1 < length (decimal n) → 10 ^ (length (decimal n) - 1) ≤ n
no_leading_zero n h =
    let long = decimal_long n in
    rw long (ltb-false n (10 ^ (places n - 1)) ((places_first n).before (places n - 1) (omega arith) (omega arith)))
