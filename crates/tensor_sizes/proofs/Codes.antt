-- The code of a type as the machine holds it: its bits are a key of the match exactly where the code is that number.
use Prim.Native.Nat.{ℕ, ◌<◌, ◌≤◌, ◌^◌}
use mathlib.Core.Path.{◌≡◌, sym, subst₂}
use native.Mathlib.Omega.{arith}
use lib.IntN.{ℤ, pos, negsuc}
use lib.Signed.{mag}
use mir.Syntax.{w32}
use mir.Val.{of_z}
use Rattle.words.specs.Words.{natural}
use Rattle.tensor_sizes.specs.Elements.{Element}
use Rattle.tensor_sizes.proofs.ElementBytes.{small_code}

-- Where the bits are a key, so is the code,
code_is : (x : ℤ) (k : ℕ) → mag x < 2 ^ 31 → k ≤ 12 → of_z w32 x ≡ k → natural x ≡ k
unfolding natural
code_is (pos n) k h l e = e
code_is (negsuc n) k h l e = absurd (omega arith)

-- so its element is the one that stands in the key's arm;
pub in_arm : (x : ℤ) {k bytes given : ℕ} → mag x < 2 ^ 31 → Element k bytes → of_z w32 x ≡ k → given ≡ bytes → Element (natural x) given
in_arm x {k} {bytes} h e p q = subst₂ Element (sym (code_is x k h (small_code e) p)) (sym q) e

-- and where the code is an element's, the bits are its key.
pub in_keys : (x : ℤ) {k bytes : ℕ} → Element k bytes → natural x ≡ k → of_z w32 x ≡ k
unfolding natural
in_keys (pos n) e p = p
in_keys (negsuc n) e p = absurd (omega (arith, small_code e))
