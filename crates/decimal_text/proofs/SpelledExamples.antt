-- Texts and the numbers that they spell, computed: signs, the ends of the range, and texts that spell none.
use Rattle.std.specs.Prelude.{◌≡◌, [], ◌∷◌, pos, negsuc, Some, None, refl}
use Rattle.decimal_text.specs.Spelled.{is_digit, all_digits, value_after, value_of, held, natural_in, below, above_zero, below_zero, signed_in}

-- The empty text spells no number,
pub empty_text : natural_in [] ≡ None
unfolding natural_in
empty_text = refl

-- nor does `12a`.
pub letter_in_text : natural_in (49 ∷ 50 ∷ 97 ∷ []) ≡ None
unfolding natural_in all_digits is_digit
letter_in_text = refl

-- `007` is 7.
pub zeros_in_front : natural_in (48 ∷ 48 ∷ 55 ∷ []) ≡ Some 7
unfolding natural_in all_digits is_digit value_of value_after held
zeros_in_front = refl

-- `-1` is −1.
pub minus_one : signed_in (45 ∷ 49 ∷ []) ≡ Some (negsuc 0)
unfolding signed_in natural_in all_digits is_digit value_of value_after held below_zero below
minus_one = refl

-- `-0` is 0.
pub minus_zero : signed_in (45 ∷ 48 ∷ []) ≡ Some (pos 0)
unfolding signed_in natural_in all_digits is_digit value_of value_after held below_zero below
minus_zero = refl

-- A minus sign alone spells no signed number,
pub minus_alone : signed_in (45 ∷ []) ≡ None
unfolding signed_in natural_in below_zero
minus_alone = refl

-- nor does the empty text.
pub empty_signed : signed_in [] ≡ None
unfolding signed_in natural_in above_zero
empty_signed = refl

-- `2147483648` is one more than 32 bits hold,
pub one_too_many : signed_in (50 ∷ 49 ∷ 52 ∷ 55 ∷ 52 ∷ 56 ∷ 51 ∷ 54 ∷ 52 ∷ 56 ∷ []) ≡ None
unfolding signed_in natural_in all_digits is_digit value_of value_after held above_zero
one_too_many = refl

-- and `-2147483648` the least that they hold.
pub least_word : signed_in (45 ∷ 50 ∷ 49 ∷ 52 ∷ 55 ∷ 52 ∷ 56 ∷ 51 ∷ 54 ∷ 52 ∷ 56 ∷ []) ≡ Some (negsuc 2147483647)
unfolding signed_in natural_in all_digits is_digit value_of value_after held below_zero below
least_word = refl
