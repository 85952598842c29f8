-- Laws of the definitions of specs/Replied.antt.
use Rattle.std.specs.Prelude.{ℕ, ◌<◌, ◌≤◌, List, Option, Some, None, ◌≡◌, refl, length, drop}
use Rattle.std.proofs.Common.{◌∙◌, subst, take_at}
use borrow.Author.Tests.{lt-ltb, le-ltb}
use Rattle.text_pieces.specs.Replied.{Stands, left_with, number_of, reply_with, told_in}

-- The same text by another name.
pub stands_as : {text other before after : List ℕ} {count : Option ℕ} → text ≡ other → Stands text before after count → Stands other before after count
stands_as {before} {after} {count} e s = subst (λ (words : List ℕ). Stands words before after count) e s

module _ (longest : ℕ) (text lent : List ℕ) where
  -- Too few bytes were lent: there is no room, and nothing changes.
  pub no_room : length lent < longest → (None ≡ reply_with longest text (length lent)) × (lent ≡ left_with longest text lent)
  unfolding reply_with left_with
  no_room l = let yes = lt-ltb (length lent) longest l in (rw (yes, reply_with), rw (yes, left_with))

  -- Else the text that stands is the reply.
  pub reply_stands : {count : Option ℕ} {after : List ℕ} → longest ≤ length lent → Stands text lent after count
      → (count ≡ reply_with longest text (length lent)) × (after ≡ left_with longest text lent)
  unfolding reply_with left_with
  reply_stands l s = let no = le-ltb (length lent) longest l in (s.count_is ∙ rw (no, reply_with), s.bytes_are ∙ rw (no, left_with))

  -- What is told in the lent bytes is then the text.
  pub told_is : longest ≤ length lent → told_in (reply_with longest text (length lent)) (left_with longest text lent) ≡ text
  unfolding reply_with left_with
  told_is l = let no = le-ltb (length lent) longest l in rw (no, reply_with, left_with) (take_at text (drop (length text) lent) (length text) refl)

-- No room is number 3, and a text is done.
pub numbers : (n : ℕ) → (number_of None ≡ 3) × (number_of (Some n) ≡ 0)
unfolding number_of
numbers n = (refl, refl)
