-- Numbers in decimal, as ASCII text. The digits are those of the kit's `io`, whose `decimal` makes them; here their count is a function of the number.
use Rattle.std.specs.Prelude.{ℕ, ◌^◌, List, nat_lt}
use Rattle.bounded.specs.First.{first_in}
use Rattle.io.specs.Digits.{last_digits}

-- A number of 64 bits has at most so many digits.
abbrev pub greatest_places : ℕ
greatest_places = 20

-- How many digits a number has: the fewest that hold it, and one at least.
unfoldable pub places : ℕ → ℕ
places n = first_in (λ k. nat_lt n (10 ^ k)) 1 greatest_places

-- The number in decimal, the most significant digit first.
unfoldable pub decimal : ℕ → List ℕ
decimal n = last_digits 10 (places n) n
