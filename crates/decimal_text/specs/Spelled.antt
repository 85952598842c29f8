-- Numbers that a text spells, as a list of its ASCII codes: a natural number by digits alone, a signed one with a minus sign before them or none. Zeros may
-- stand in front. All is total: a text spells a number or none.
use Rattle.std.specs.Prelude.{ℕ, zero, suc, ◌+◌, ◌-◌, ◌*◌, Bool, true, false, ◌&&◌, List, [], ◌∷◌, drop, ℤ, pos, negsuc, ◌==◌, nat_le, nat_lt, slice_index, Option, Some, None}
use Rattle.std.specs.Option.{option_and_then}

-- Numbers are read below this one, the greatest of 64 bits, which is read as none itself.
abbrev pub number_limit : ℕ
number_limit = 18446744073709551615

-- Whether a code is a digit's, `0` to `9`.
unfoldable pub is_digit : ℕ → Bool
is_digit code = nat_le 48 code && nat_le code 57

-- Whether every code is.
unfoldable pub all_digits : List ℕ → Bool
all_digits [] = true
all_digits (code ∷ text) = is_digit code && all_digits text

-- What digits say after a number that was read before them.
unfoldable pub value_after : ℕ → List ℕ → ℕ
value_after value [] = value
value_after value (code ∷ text) = value_after (10 * value + (code - 48)) text

-- The number that digits say.
unfoldable pub value_of : List ℕ → ℕ
value_of text = value_after 0 text

-- A number that was read, where it is below the limit.
unfoldable pub held : ℕ → Option ℕ
held n = elim (nat_lt n number_limit) [ true ↦ Some n | false ↦ None ]

-- The number that a text spells: one digit or more, and nothing else.
unfoldable pub natural_in : List ℕ → Option ℕ
natural_in [] = None
natural_in (code ∷ text) = elim (all_digits (code ∷ text)) [ true ↦ held (value_of (code ∷ text)) | false ↦ None ]

-- So many below 0.
unfoldable pub below : ℕ → ℤ
below zero = pos 0
below (suc n) = negsuc n

-- The signed number of so many above 0, where 32 bits hold it.
unfoldable pub above_zero : ℕ → Option ℤ
above_zero n = elim (nat_le n 2147483647) [ true ↦ Some (pos n) | false ↦ None ]

-- The signed number of so many below 0, where 32 bits hold it.
unfoldable pub below_zero : ℕ → Option ℤ
below_zero n = elim (nat_le n 2147483648) [ true ↦ Some (below n) | false ↦ None ]

-- The signed number of 32 bits that a text spells, with a minus sign before it or none.
unfoldable pub signed_in : List ℕ → Option ℤ
signed_in text =
    elim (slice_index text 0 == 45) [ true ↦ option_and_then below_zero (natural_in (drop 1 text)) | false ↦ option_and_then above_zero (natural_in text) ]
