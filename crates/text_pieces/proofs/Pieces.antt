-- Laws of the definitions of specs/Pieces.antt.
use Rattle.std.specs.Prelude.{ℕ, zero, suc, ◌+◌, ◌*◌, ◌^◌, ◌≤◌, ◌<◌, List, [], ◌++◌, ◌≡◌, refl, length}
use Rattle.std.proofs.Common.{ap₂, mul-suc, add-one, arith, length-append}
use Rattle.decimal_text.specs.Decimal.{decimal}
use Rattle.decimal_text.proofs.Decimals.{places_at_most, places_bounded, decimal_long}
use Rattle.text_pieces.specs.Pieces.{lines_below, spaced}

-- No line yet.
pub no_lines : (line_of : ℕ → List ℕ) → lines_below line_of 0 ≡ []
unfolding lines_below
no_lines line_of = refl

-- One line more.
pub lines_more : (line_of : ℕ → List ℕ) (n : ℕ) → lines_below line_of (n + 1) ≡ lines_below line_of n ++ line_of n
unfolding lines_below
lines_more line_of n = rw (add-one, lines_below)

-- Lines that are the same give the same text.
pub lines_same : (f g : ℕ → List ℕ) (n : ℕ) → ((k : ℕ) → k < n → f k ≡ g k) → lines_below f n ≡ lines_below g n
unfolding lines_below
lines_same f g zero h = refl
lines_same f g (suc n) h = ap₂ (λ (xs ys : List ℕ). xs ++ ys) (lines_same f g n (λ k l. h k (omega arith))) (h n (omega arith))

-- ---- how long they can be

-- Lines of so many codes at most have so many each.
pub lines_short : (line_of : ℕ → List ℕ) (long n : ℕ) → ((k : ℕ) → k < n → length (line_of k) ≤ long) → length (lines_below line_of n) ≤ long * n
unfolding lines_below
lines_short line_of long zero h = omega arith
lines_short line_of long (suc n) h =
    let rest = lines_short line_of long n (λ k l. h k (omega arith)) in
    simp length-append (omega (arith, rest, h n (omega arith), mul-suc long n))

-- A number of 32 bits, or any that is no greater than ten digits can say, has ten digits at most.
pub decimal_short : (n : ℕ) → n < 10 ^ 10 → length (decimal n) ≤ 10
decimal_short n h = omega (arith, decimal_long n, places_at_most n 10 (omega arith) h)

-- No number has more than twenty digits.
pub decimal_bounded : (n : ℕ) → length (decimal n) ≤ 20
decimal_bounded n = omega (arith, decimal_long n, places_bounded n)

-- With its blank, a number of 32 bits has eleven codes at most,
pub spaced_short : (n : ℕ) → n < 10 ^ 10 → length (spaced n) ≤ 11
unfolding spaced
spaced_short n h = omega (arith, decimal_short n h)

-- and any number twenty-one.
pub spaced_bounded : (n : ℕ) → length (spaced n) ≤ 21
unfolding spaced
spaced_bounded n = omega (arith, decimal_bounded n)
