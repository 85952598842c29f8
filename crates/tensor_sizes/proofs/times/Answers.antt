-- `tensor_sizes::times` meets its contract: a word below 0 is as the greatest number, and a product that saturates is too large anyway.
use Prim.Native.Nat.{ℕ, ◌*◌, ◌<◌, ◌^◌, min}
use Rattle.std.specs.Prelude.{Result, Ok, Err, ℤ, pos, negsuc, ◌≡◌}
use Rattle.std.proofs.Common.{arith, refl, ◌∙◌, ap, rules}
use Rattle.std.specs.Int.{FitsUnsignedBits}
use Rattle.std.specs.Int.Signed.{mag}
use Rattle.std.specs.Result.{OkIff, result_unwrap_or}
use Rattle.std.proofs.Math.IntN.{nat_abs}
use Rattle.words.proofs.Signed.{read}
use Rattle.words.specs.Words.{natural}
use Rattle.tensor_sizes.proofs.times.Goals as goal

-- the word as a number of 32 bits, or the greatest of them
natural_or : {E : Type 0} (z : ℤ) (r : Result ℕ E) → mag z < 2 ^ 31 → OkIff r (FitsUnsignedBits 32 z) (nat_abs z) → result_unwrap_or r 4294967295 ≡ natural z
unfolding natural
natural_or (pos n) (Ok x) h k = k.1
natural_or (pos n) (Err e) h k = absurd (k (omega (arith, h)))
natural_or (negsuc n) (Ok x) h k = absurd k.0
natural_or (negsuc n) (Err e) h k = refl

pub returns : goal.returns
returns c =
    let z = c.args.dimension in
    let fits : mag z < 2 ^ 31 = search rules in
    let same = read z fits in
    let n = natural_or z c.try_from.result fits (rw same at c.try_from.ensures) in
    let e : c.from.result ≡ natural z = c.from.ensures ∙ c.unwrap_or-dimension.ensures ∙ n in
    let p : c.saturating_mul-product.result ≡ min (c.args.elements * natural z) 18446744073709551615 = c.saturating_mul-product.ensures ∙ ap (λ (k : ℕ). min (c.args.elements * k) 18446744073709551615) e in
    omega (arith, c.min.ensures, p)
