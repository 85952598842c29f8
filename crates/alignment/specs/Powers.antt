-- Powers of two.
--     is_power_of_two n  whether n is 2 ^ k for some k
-- A reader believes it by `power_says` and `power_of`, which mention no search.
use Rattle.std.specs.Prelude.{◌≡◌, ℕ, ◌^◌, Bool, nat_eq}
use Rattle.bounded.specs.First.{holds_below}

-- Whether a number is a power of two; its exponent is then below it.
unfoldable pub is_power_of_two : ℕ → Bool
is_power_of_two n = holds_below (λ k. nat_eq (2 ^ k) n) n

-- A power of two, with its exponent.
pub record PowerOfTwo (n : ℕ) : Type 0 where
  pub exponent : ℕ
  pub is : n ≡ 2 ^ exponent
