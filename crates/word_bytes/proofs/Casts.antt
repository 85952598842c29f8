-- The library's casts between the bits and the signed number are those of the definitions.
use Rattle.std.specs.Prelude.{ℕ, suc, ◌-◌, ◌<◌, ◌^◌, Bool, true, false, cond, ltb, ◌≡◌, refl, ℤ, pos, negsuc}
use Rattle.std.proofs.Common.{arith, sym, ◌∙◌, ap}
use Rattle.std.proofs.Math.Facts.{to_z_pos, to_z-neg}
use Rattle.std.proofs.lemmas.Bool.{ltb-true, ltb-false}
use mir.Syntax.{w32}
use mir.Val.{of_z, to_z}
use Rattle.word_bytes.specs.Bytes.{signed_word, unsigned_word}

-- The signed number of 32 bits,
pub signed_is : (n : ℕ) → n < 2 ^ 32 → to_z w32 n ≡ signed_word n
unfolding signed_word
signed_is n h = go (ltb n 2147483648) refl
  where
    go : (b : Bool) → ltb n 2147483648 ≡ b → to_z w32 n ≡ cond b (pos n) (negsuc (4294967295 - n))
    go true e = to_z_pos w32 (ltb-true n 2147483648 e)
    go false e =
        let bits : 2 ^ 32 - suc (4294967295 - n) ≡ n = omega arith in
        ap (to_z w32) (sym bits) ∙ to_z-neg w32 (4294967295 - n) (omega (arith, ltb-false n 2147483648 e))

-- and the bits of a signed number.
pub unsigned_is : (z : ℤ) → of_z w32 z ≡ unsigned_word z
unfolding unsigned_word
unsigned_is (pos n) = refl
unsigned_is (negsuc n) = omega arith
