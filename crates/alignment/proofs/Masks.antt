-- Rounding to a power of two by its bits: 2 ^ k - 1 is the lowest k of them, and 2 ^ (j + k) - 2 ^ k the j above.
use Rattle.std.proofs.Common.{◌≡◌, ℕ, ◌+◌, ◌-◌, ◌*◌, ◌/◌, ◌%◌, ◌^◌, ◌<◌, ◌≤◌, sym, ap, ◌∙◌, ⊎_elim, mod-lt, le_antisymm, div-add-mod', arith, pow_pos}
use native.Mathlib.Nat.{add-mul-mod_self_right}
use lib.Bits.{bit_and, and_high, and_mask}
use lib.Pow.{recompose, mod-pow-add}
use Rattle.alignment.specs.Alignments.{loss}
use Rattle.alignment.proofs.Alignments.{loss_reaches, loss_least}
use Rattle.alignment.specs.Rounding.{rounded_up, rounded_down}
use Rattle.alignment.proofs.Rounding.{multiples_apart}
use Rattle.bounded.proofs.Boolean.{lt_or_le}

-- A number of j + k bits, rounded down: without the lowest k.
pub down_by_bits : (j k n : ℕ) → n < 2 ^ (j + k) → bit_and n (2 ^ (j + k) - 2 ^ k) ≡ rounded_down (2 ^ k) n
unfolding rounded_down
down_by_bits j k n l = and_high n j k ∙ omega (arith, recompose j k l, div-add-mod' n (2 ^ k))

-- Rounded up: the same, once all of the lowest k are added.
pub up_by_bits : (j k n : ℕ) → n + (2 ^ k - 1) < 2 ^ (j + k) → bit_and (n + (2 ^ k - 1)) (2 ^ (j + k) - 2 ^ k) ≡ rounded_up (2 ^ k) n
unfolding rounded_up rounded_down
up_by_bits j k n l = down_by_bits j k (n + (2 ^ k - 1)) l

-- What is lost before a start is rounded up: the lowest k bits of the start taken from 0, which wraps.
pub loss_by_bits : (j k n start : ℕ) → (n + start) % 2 ^ (j + k) ≡ 0 → bit_and n (2 ^ k - 1) ≡ loss (2 ^ k) start
loss_by_bits j k n start e = and_mask n k ∙ le_antisymm most (loss_least (2 ^ k) start (pow_pos k) (n % 2 ^ k) reaches)
  where
    reaches : (start + n % 2 ^ k) % 2 ^ k ≡ 0
    reaches =
        let x : start + n % 2 ^ k + n / 2 ^ k * 2 ^ k ≡ n + start = omega (arith, div-add-mod' n (2 ^ k)) in
        sym (add-mul-mod_self_right (start + n % 2 ^ k) (n / 2 ^ k) (2 ^ k)) ∙ ap (λ (m : ℕ). m % 2 ^ k) x ∙ omega (arith, e, mod-pow-add (n + start) j k)

    most : n % 2 ^ k ≤ loss (2 ^ k) start
    most =
        ⊎_elim
        (λ l. omega (arith, mod-lt n (pow_pos k), multiples_apart (2 ^ k) _ _ (loss_reaches (2 ^ k) start (pow_pos k)) reaches (omega arith)))
        (λ l. l)
        (lt_or_le (loss (2 ^ k) start) (n % 2 ^ k))
