-- A grid of 0, of which 0 alone is a multiple: what is rounded to it is 0, and nothing is lost before it.
use Rattle.std.proofs.Common.{◌≡◌, ℕ, ◌-◌, ◌%◌, sym, ◌∙◌, mul-zero}
use native.Mathlib.Nat.{mod-zero, zero-sub}
use Rattle.alignment.specs.Alignments.{loss}
use Rattle.alignment.specs.Rounding.{rounded_up, rounded_down}

pub up_to_none : (g n : ℕ) → g ≡ 0 → 0 ≡ rounded_up g n
unfolding rounded_up
up_to_none g n z = rw (z, mul-zero)

pub down_to_none : (g n : ℕ) → g ≡ 0 → 0 ≡ rounded_down g n
unfolding rounded_down
down_to_none g n z = rw (z, mul-zero)

pub none_lost : (g start : ℕ) → g ≡ 0 → 0 ≡ loss g start
unfolding loss
none_lost g start z = rw z (sym (mod-zero (0 - start % 0) ∙ zero-sub (start % 0)))
