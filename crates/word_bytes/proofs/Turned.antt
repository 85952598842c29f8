-- −1 − x of the distance that the bits of a negative number leave to the top: it is the number.
use Prim.Native.Nat.{ℕ, zero, suc, ◌-◌, ◌<◌, ◌≤◌, ◌^◌}
use mathlib.Core.Path.{◌≡◌, refl, ap, ◌∙◌}
use native.Mathlib.Omega.{arith}
use borrow.Author.Rules.{sfits_of}
use borrow.Author.Tests.{le-ltb}
use lib.IntN.{pos, negsuc, ◌-ℤ◌}
use mir.Facts.{to_z-of_z}
use mir.Syntax.{w32}
use mir.Val.{of_z, to_z}
use Rattle.word_bytes.specs.Bytes.{signed_word}

from_natural : (n : ℕ) → negsuc 0 -ℤ pos n ≡ negsuc n
from_natural zero = refl
from_natural (suc n) = ap negsuc (omega arith)

-- From half on, the bits are the number that lies below −1 by what they leave to the top.
pub negative : (n : ℕ) → 2147483648 ≤ n → n < 2 ^ 32 → to_z w32 (of_z w32 (negsuc 0 -ℤ pos (4294967295 - n))) ≡ signed_word n
unfolding signed_word
negative n l h =
    to_z-of_z {w = w32} (sfits_of (rw (from_natural (4294967295 - n)) (omega arith)))
    ∙ from_natural (4294967295 - n) ∙ rw (le-ltb n 2147483648 l)
