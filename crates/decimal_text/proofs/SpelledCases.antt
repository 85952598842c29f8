-- The cases of a signed number that a text spells: by its first code, and by what 32 bits hold.
use Rattle.std.specs.Prelude.{◌≡◌, ℕ, ◌<◌, ◌≤◌, List, [], ◌∷◌, take, drop, true, false, nat_eq, ℤ, pos, Option, Some, None, ◌≢◌, slice_index}
use Rattle.std.proofs.Common.{arith, le-leb, eq-eqb, ne_eqb}
use Rattle.std.proofs.lemmas.Bool.{lt-leb}
use Rattle.std.specs.Option.{MatchOption, option_and_then}
use Rattle.std.specs.Cmp.Lexicographic.{pointwise}
use Rattle.decimal_text.specs.Spelled.{natural_in, below, above_zero, below_zero, signed_in}

-- Above 0, 32 bits hold up to 2,147,483,647,
pub above_held : (n : ℕ) → n ≤ 2147483647 → above_zero n ≡ Some (pos n)
unfolding above_zero
above_held n h = rw (above_zero, le-leb n 2147483647 h)

-- and no more.
pub above_not_held : (n : ℕ) → 2147483647 < n → above_zero n ≡ None
unfolding above_zero
above_not_held n h = rw (above_zero, lt-leb n 2147483647 h)

-- Below 0, they hold one more,
pub below_held : (n : ℕ) → n ≤ 2147483648 → below_zero n ≡ Some (below n)
unfolding below_zero
below_held n h = rw (below_zero, le-leb n 2147483648 h)

-- and no more than that.
pub below_not_held : (n : ℕ) → 2147483648 < n → below_zero n ≡ None
unfolding below_zero
below_not_held n h = rw (below_zero, lt-leb n 2147483648 h)

-- After a minus sign the number is below 0,
pub minus_first : (text : List ℕ) → slice_index text 0 ≡ 45 → signed_in text ≡ option_and_then below_zero (natural_in (drop 1 text))
unfolding signed_in
minus_first text e = rw (signed_in, eq-eqb (slice_index text 0) 45 e)

-- and with none it is above.
pub no_minus_first : (text : List ℕ) → (slice_index text 0 ≢ 45) → signed_in text ≡ option_and_then above_zero (natural_in text)
unfolding signed_in
no_minus_first text f = rw (signed_in, ne_eqb (slice_index text 0) 45 f)

-- ---- as the code comes to them

-- A text that begins with what a minus sign is,
pub begins_with_minus : (text : List ℕ) → pointwise nat_eq (take 1 text) (45 ∷ []) ≡ true → slice_index text 0 ≡ 45
begins_with_minus [] e = cc
begins_with_minus (code ∷ text) e = grind arith

-- and one that does not.
pub begins_without_minus : (text : List ℕ) → pointwise nat_eq (take 1 text) (45 ∷ []) ≡ false → slice_index text 0 ≢ 45
begins_without_minus [] e = λ h. omega arith
begins_without_minus (code ∷ text) e = grind arith

-- What a number that may be none is made to.
pub and_then_is : (f : ℕ → Option ℤ) (o : Option ℕ) (r : Option ℤ) → MatchOption o (r ≡ None) (λ x. r ≡ f x) → r ≡ option_and_then f o
and_then_is f None r h = h
and_then_is f (Some x) r h = h
