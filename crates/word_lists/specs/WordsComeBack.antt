-- What is put into bytes is what is read from them, for lists of words: a list that was put comes back, words that were read and are put again copy
-- their bytes, and no other byte changes.
use Rattle.std.specs.Prelude.{ℕ, ◌^◌, ◌<◌, List, ℤ, pos, length, get_or}
use Rattle.std.specs.Int.Signed.{mag}

-- Every word of the list is one of 32 bits.
abbrev pub AllFit : List ℤ → Type 0
AllFit ws = (k : ℕ) → k < length ws → mag (get_or ws k (pos 0)) < 2 ^ 31
