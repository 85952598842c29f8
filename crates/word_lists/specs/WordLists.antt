-- Signed words that follow one another in bytes, four little-endian bytes each (`word_bytes`), and the list that they are.
-- All is total: past the end of the bytes every word reads as 0, and a byte that is not there is not set.
use Rattle.std.specs.Prelude.{ℕ, zero, suc, ◌+◌, List, [], ◌∷◌, ℤ}
use Rattle.word_bytes.specs.Bytes.{word_of, with_word}

-- The n words from a place on.
unfoldable pub words_from : List ℕ → ℕ → ℕ → List ℤ
words_from bytes at zero = []
words_from bytes at (suc n) = word_of bytes at ∷ words_from bytes (at + 4) n

-- The bytes with a list of words put from a place on.
unfoldable pub with_words : List ℕ → ℕ → List ℤ → List ℕ
with_words bytes at [] = bytes
with_words bytes at (w ∷ ws) = with_words (with_word bytes at w) (at + 4) ws
