-- Bytes and the words that they are, computed: the ends of the range, the order of the bytes, and places that are not in the list.
use Rattle.std.specs.Prelude.{[], ◌∷◌, ◌≡◌, refl, pos, negsuc}
use Rattle.word_bytes.specs.Bytes.{little_endian, with_little_endian, signed_word, unsigned_word, word_of, with_word}

-- The lowest byte comes first: the bytes 1 and 2 are 513.
pub lowest_first : little_endian (1 ∷ 2 ∷ []) 0 2 ≡ 513
unfolding little_endian
lowest_first = refl

-- Four bytes of 255 are −1.
pub minus_one : word_of (255 ∷ 255 ∷ 255 ∷ 255 ∷ []) 0 ≡ negsuc 0
unfolding little_endian signed_word word_of
minus_one = refl

-- The lowest word, −2,147,483,648, has the top bit alone.
pub lowest : word_of (0 ∷ 0 ∷ 0 ∷ 128 ∷ []) 0 ≡ negsuc 2147483647
unfolding little_endian signed_word word_of
lowest = refl

-- The highest word, 2,147,483,647, has every bit but the top one.
pub highest : word_of (255 ∷ 255 ∷ 255 ∷ 127 ∷ []) 0 ≡ pos 2147483647
unfolding little_endian signed_word word_of
highest = refl

-- Bytes past the end read as 0.
pub past_the_end : word_of (7 ∷ 1 ∷ []) 1 ≡ pos 1
unfolding little_endian signed_word word_of
past_the_end = refl

-- −2 at place 1 of six bytes.
pub minus_two_put : with_word (9 ∷ 9 ∷ 9 ∷ 9 ∷ 9 ∷ 9 ∷ []) 1 (negsuc 1) ≡ 9 ∷ 254 ∷ 255 ∷ 255 ∷ 255 ∷ 9 ∷ []
unfolding with_little_endian unsigned_word with_word
minus_two_put = refl

-- Of a word that reaches past the end, the bytes that are there are put.
pub part_put : with_word (9 ∷ 9 ∷ 9 ∷ []) 1 (pos 258) ≡ 9 ∷ 2 ∷ 1 ∷ []
unfolding with_little_endian unsigned_word with_word
part_put = refl
