-- Little-endian bytes as numbers, and back. A number of k bytes has its lowest byte at its place and the others after it;
-- a signed word is four bytes in two's complement. All is total: a byte outside the list reads as 0, and setting one changes nothing.
use Rattle.std.specs.Prelude.{ℕ, zero, suc, ◌+◌, ◌*◌, ◌-◌, ◌/◌, ◌%◌, cond, List, ltb, ℤ, pos, negsuc, get_or, set}

-- The number in the k bytes from a place on, the lowest first.
unfoldable pub little_endian : List ℕ → ℕ → ℕ → ℕ
little_endian bytes at zero = 0
little_endian bytes at (suc k) = get_or bytes at 0 + 256 * little_endian bytes (at + 1) k

-- The bytes with the k from a place on set to the number's, the lowest first.
unfoldable pub with_little_endian : List ℕ → ℕ → ℕ → ℕ → List ℕ
with_little_endian bytes at zero n = bytes
with_little_endian bytes at (suc k) n = with_little_endian (set bytes at (n % 256)) (at + 1) k (n / 256)

-- 32 bits as a signed number: below 2,147,483,648 the number itself, and from there to 4,294,967,295 the negative ones up to −1.
unfoldable pub signed_word : ℕ → ℤ
signed_word n = cond (ltb n 2147483648) (pos n) (negsuc (4294967295 - n))

-- The 32 bits of a signed number.
unfoldable pub unsigned_word : ℤ → ℕ
unsigned_word (pos n) = n
unsigned_word (negsuc n) = 4294967295 - n

-- The signed word whose four bytes start at a place.
unfoldable pub word_of : List ℕ → ℕ → ℤ
word_of bytes at = signed_word (little_endian bytes at 4)

-- The bytes with the four from a place on set to the signed word's.
unfoldable pub with_word : List ℕ → ℕ → ℤ → List ℕ
with_word bytes at z = with_little_endian bytes at 4 (unsigned_word z)
