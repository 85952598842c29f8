-- What asking for a text comes to, so many bytes of text or none for want of room, and what it leaves in the lent bytes: the text in front and the rest as it
-- was; or, where fewer bytes were lent than the longest such text has, nothing changes. "Where an answer is an enum, a definition gives this paper's number".
use Rattle.std.specs.Prelude.{ℕ, true, false, List, [], ◌++◌, Option, Some, None, ◌≡◌, ltb, length, take, drop}
use Rattle.answer.specs.Answer.{done, table_too_short}

-- No room is number 3, a text is done.
unfoldable pub number_of : Option ℕ → ℕ
number_of (Some n) = done
number_of None = table_too_short

-- The reply, by the length of the longest text, the text and the room: no room is tested first.
unfoldable pub reply_with : ℕ → List ℕ → ℕ → Option ℕ
reply_with longest text room = elim (ltb room longest) [ true ↦ None | false ↦ Some (length text) ]

-- The lent bytes in the end.
unfoldable pub left_with : ℕ → List ℕ → List ℕ → List ℕ
left_with longest text lent = elim (ltb (length lent) longest) [ true ↦ lent | false ↦ text ++ drop (length text) lent ]

-- What a reply tells in the lent bytes.
abbrev pub told_in : Option ℕ → List ℕ → List ℕ
told_in (Some n) lent = take n lent
told_in None lent = []

-- ---- as the code comes to them

-- A text stands in lent bytes: so many of them are told, which are the text, and the rest is as it was.
pub record Stands (text before after : List ℕ) (count : Option ℕ) : Type 0 where
  pub count_is : count ≡ Some (length text)
  pub bytes_are : after ≡ text ++ drop (length text) before
