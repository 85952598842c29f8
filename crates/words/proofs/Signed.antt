-- What the tests on a signed word say, by its sign. A signed local holds its bits, so a need speaks of `to_z w32 (of_z w32 x)`, which `read` turns
-- into x; `h : mag x < 2 ^ 31` is what reading an element of a `&[i32]` gives.
use Prim.Native.Nat.{suc, ◌-◌, ◌<◌, ◌^◌}
use mathlib.Core.Bool.{Bool, true, false, true≢false}
use mathlib.Core.Path.{◌≡◌, refl}
use native.Mathlib.Omega.{arith}
use borrow.Author.Rules.{sfits_of}
use borrow.Author.Tests.{eq-eqb, ne_eqb, eqb-true, eqb-false, ltb-true}
use lib.Dec.{eqb}
use lib.IntN.{ℤ, pos, negsuc, nat_abs}
use lib.Signed.{lt_z, mag}
use mir.Facts.{to_z-of_z}
use mir.Syntax.{w32}
use mir.Val.{of_z, to_z}
use Rattle.words.specs.Words.{natural, is_minus_one}

-- A word that was read is itself.
pub read : (x : ℤ) → mag x < 2 ^ 31 → to_z w32 (of_z w32 x) ≡ x
read x h = to_z-of_z {w = w32} (sfits_of h)

-- A negative word stands above every limit.
pub negative : (x : ℤ) → lt_z x (pos 0) ≡ true → 4294967295 ≡ natural x
unfolding natural
negative (pos n) e = absurd (omega (arith, ltb-true n 0 e))
negative (negsuc n) e = refl

-- Any other is its own natural number.
pub itself : (x : ℤ) → lt_z x (pos 0) ≡ false → nat_abs x ≡ natural x
unfolding natural
itself (pos n) e = refl
itself (negsuc n) e = absurd (true≢false e)

-- The bits are those of −1 exactly where the word is.
pub minus_one : (x : ℤ) → mag x < 2 ^ 31 → eqb (of_z w32 x) 4294967295 ≡ is_minus_one x
unfolding is_minus_one
minus_one (pos n) h = ne_eqb n 4294967295 (omega arith)
minus_one (negsuc n) h = go (eqb n 0) refl
  where
    go : (b : Bool) → eqb n 0 ≡ b → eqb (2 ^ 32 - suc n) 4294967295 ≡ b
    go true e = eq-eqb (2 ^ 32 - suc n) 4294967295 (let z : n ≡ 0 = eqb-true n 0 e in omega arith)
    go false e = ne_eqb (2 ^ 32 - suc n) 4294967295 (λ q. eqb-false n 0 e (omega arith))
