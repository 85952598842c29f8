-- Laws of the definitions of specs/Rounding.antt.
use Rattle.std.specs.Prelude.{◌≡◌, ℕ, zero, suc, ◌+◌, ◌-◌, ◌*◌, ◌/◌, ◌%◌, ◌<◌, ◌≤◌}
use Rattle.std.proofs.Common.{⊎_elim, ◌∙◌, mul-zero, zero-mul, suc-mul, mul-le-mul_right, lt_of_mul-lt-mul_right, le_antisymm, arith}
use Rattle.std.proofs.Math.Nat.{div-add-mod', mod-lt, mul-mod_left, div-eq_of_lt, div-mul-le_self, add-mul-mod_self_right}
use Rattle.bounded.proofs.Boolean.{lt_or_le}
use Rattle.alignment.specs.Rounding.{rounded_down, rounded_up}

-- Two multiples are at least one step apart.
pub multiples_apart : (g m n : ℕ) → m % g ≡ 0 → n % g ≡ 0 → m < n → m + g ≤ n
multiples_apart g m n p q l =
    let x : m / g * g < n / g * g = omega (arith, div-add-mod' m g, div-add-mod' n g) in
    omega (arith, div-add-mod' m g, div-add-mod' n g, suc-mul (m / g) g, mul-le-mul_right g (lt_of_mul-lt-mul_right g x))

-- ---- up

module _ (g n : ℕ) where
  -- It is a multiple.
  pub up_multiple : rounded_up g n % g ≡ 0
  unfolding rounded_up
  up_multiple = mul-mod_left _ g

  -- It is at least the number.
  pub up_holds : 0 < g → n ≤ rounded_up g n
  unfolding rounded_up
  up_holds h = omega (arith, div-add-mod' (n + (g - 1)) g, mod-lt (n + (g - 1)) h)

  up_close : 0 < g → rounded_up g n < n + g
  unfolding rounded_up
  up_close h = omega (arith, div-add-mod' (n + (g - 1)) g)

  -- No lower multiple is.
  pub up_least : 0 < g → (m : ℕ) → m % g ≡ 0 → n ≤ m → rounded_up g n ≤ m
  up_least h m e l = ⊎_elim (λ x. omega (arith, up_close h, multiples_apart g m (rounded_up g n) e up_multiple x)) (λ x. x) (lt_or_le m (rounded_up g n))

  -- It is the only multiple within a step above the number.
  pub up_only : 0 < g → (m : ℕ) → m % g ≡ 0 → n ≤ m → m < n + g → m ≡ rounded_up g n
  up_only h m e l o =
      le_antisymm
      (⊎_elim (λ x. omega (arith, up_holds h, multiples_apart g (rounded_up g n) m up_multiple e x)) (λ x. x) (lt_or_le (rounded_up g n) m))
      (up_least h m e l)

  -- It passes the number by no more than g, whatever g is.
  pub up_most : rounded_up g n ≤ n + g
  unfolding rounded_up
  up_most = omega (arith, div-mul-le_self (n + (g - 1)) g)

-- Nothing stays nothing.
pub up_nothing : (g : ℕ) → rounded_up g 0 ≡ 0
unfolding rounded_up
up_nothing zero = mul-zero ((0 + (0 - 1)) / 0)
up_nothing (suc k) = let l : 0 + (suc k - 1) < suc k = omega arith in rw (div-eq_of_lt l) (zero-mul (suc k))

-- Something stays something.
pub up_something : (g n : ℕ) → 0 < g → 0 < n → 0 < rounded_up g n
up_something g n h l = omega (arith, up_holds g n h)

-- From one multiple it leads to another.
pub up_from_multiple : (g n o : ℕ) → o % g ≡ 0 → (o + rounded_up g n) % g ≡ 0
unfolding rounded_up
up_from_multiple g n o e = add-mul-mod_self_right o _ g ∙ e

-- ---- down

module _ (g n : ℕ) where
  -- It is a multiple.
  pub down_multiple : rounded_down g n % g ≡ 0
  unfolding rounded_down
  down_multiple = mul-mod_left _ g

  -- What is cut off is the remainder.
  pub down_rest : rounded_down g n + n % g ≡ n
  unfolding rounded_down
  down_rest = div-add-mod' n g

  -- It is at most the number.
  pub down_within : rounded_down g n ≤ n
  down_within = omega (arith, down_rest)

  -- No higher multiple is.
  pub down_greatest : 0 < g → (m : ℕ) → m % g ≡ 0 → m ≤ n → m ≤ rounded_down g n
  down_greatest h m e l =
      ⊎_elim
      (λ x. omega (arith, down_rest, mod-lt n h, multiples_apart g (rounded_down g n) m down_multiple e x))
      (λ x. x)
      (lt_or_le (rounded_down g n) m)
