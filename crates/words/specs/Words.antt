-- A signed word of a table, taken apart: which natural number it is, and whether it is −1.
-- All is total. A negative word reads as a number above every limit of the documents, so that no test of a limit lets it pass.
use Rattle.std.specs.Prelude.{ℕ, Bool, false, List, eqb, ℤ, pos, negsuc, get_or}

-- The word at a place; outside the table, 0.
abbrev pub word_at : List ℤ → ℕ → ℤ
word_at table at = get_or table at (pos 0)

-- A word from 0 on is itself; a negative one stands as 4,294,967,295.
unfoldable pub natural : ℤ → ℕ
natural (pos n) = n
natural (negsuc n) = 4294967295

-- Whether the word is −1.
unfoldable pub is_minus_one : ℤ → Bool
is_minus_one (pos n) = false
is_minus_one (negsuc n) = eqb n 0
