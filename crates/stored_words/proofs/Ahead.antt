-- Bytes put one after another, as the loop puts them, are those of the definition.
use Rattle.std.specs.Prelude.{ℕ, ◌+◌, ◌/◌, ◌<◌, ◌≤◌, List, [], ◌∷◌, ◌≡◌, length, get_or, drop, set}
use Rattle.std.proofs.Common.{arith, add-one, add_assoc, drop-cons, drop_of_length-le}
use Rattle.std.specs.Int.{to_le_bytes}
use mir.Syntax.{w32}
use Rattle.word_bytes.specs.Bytes.{with_little_endian}

-- The bytes with a list of bytes put from a place on.
unfoldable pub put : List ℕ → ℕ → List ℕ → List ℕ
put bytes at [] = bytes
put bytes at (b ∷ bs) = put (set bytes at b) (at + 1) bs

-- The four of a number are put as the definition puts them.
pub four_put : (bytes : List ℕ) (at n : ℕ) → put bytes at (to_le_bytes w32 n) ≡ with_little_endian bytes at 4 n
unfolding with_little_endian put
four_put bytes at n =
    let third : n / 65536 ≡ n / 256 / 256 = omega arith in
    let fourth : n / 16777216 ≡ n / 256 / 256 / 256 = omega arith in
    rw (third, fourth)

-- One more byte is put, and the rest is left to be put behind it.
pub one_put : (bytes whole : List ℕ) (at : ℕ) (bs : List ℕ) (k : ℕ) → k < length bs → put bytes (at + k) (drop k bs) ≡ whole
    → put (set bytes (at + k) (get_or bs k 0)) (at + (k + 1)) (drop (k + 1) bs) ≡ whole
unfolding put
one_put bytes whole at bs k l e = rw (← add_assoc at k 1, add-one k) (rw (drop-cons bs k 0 l) at e)

-- Nothing is left.
pub all_put : (bytes whole : List ℕ) (at : ℕ) (bs : List ℕ) (k : ℕ) → length bs ≤ k → put bytes (at + k) (drop k bs) ≡ whole → bytes ≡ whole
unfolding put
all_put bytes whole at bs k l e = rw (drop_of_length-le bs l) at e
