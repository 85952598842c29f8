-- The first pair of fixed rows that collide, as the search ends and as a caller learns of it.
use Prim.Native.Nat.{ℕ}
use Rattle.std.proofs.Common.{ap}
use Rattle.std.specs.Prelude.{Bool, true, false, List, Option, Some, None, ℤ, ◌≡◌, refl}
use Prim.Native.Nat.{◌+◌, ◌<◌}
use native.Mathlib.Omega.{arith}
use borrow.Author.Tests.{le-ltb}
use Rattle.std.proofs.Common.{⊎_elim}
use Rattle.bounded.specs.First.{first_in}
use Rattle.bounded.proofs.First.{first_is, pass}
use Rattle.bounded.proofs.Boolean.{lt_or_le, contrary}
use Rattle.bounded.specs.Pair.{pair_below, pair_first, pair_second, partner, has_partner, Outer}
use Rattle.request_table.specs.Table.{rows}
use Rattle.units.specs.Numbered.{row_of}
use Rattle.units.specs.declared.Row.{Row}
use Rattle.units.specs.declared.Offset.{Offset}
use Rattle.request_table.specs.declared.Request.{Request}
use Rattle.request_table.specs.Table.{request, fixed}
use Rattle.request_table.specs.Buffers.{buffer, collides}
use Rattle.request_table.proofs.GoodRows.{has_says, none_says}
use Rattle.std.proofs.Math.Bool.{and-false}
use Rattle.std.proofs.Math.Path.{sym, ◌∙◌, ap₂}
use Rattle.greedy_rule.specs.Plan.{fixed_collide}
use Rattle.fixed_rows.specs.FixedPair.{fixed_pair}

module _ (g : ℕ) (t : List ℤ) where
  -- A pair was found.
  pub pair_found : (a b : ℕ) → (pair_below (fixed_collide g t) (rows t) ≡ true) × (a ≡ pair_first (fixed_collide g t) (rows t)) × (b ≡ pair_second (fixed_collide g t) (rows t))
      → Some (row_of a, row_of b) ≡ fixed_pair g t
  unfolding fixed_pair
  pair_found a b h = rw (h.0, fixed_pair, ← h.1, ← h.2)

  -- There is none.
  pub none_found : pair_below (fixed_collide g t) (rows t) ≡ false → None ≡ fixed_pair g t
  unfolding fixed_pair
  none_found e = rw (e, fixed_pair)

-- What a pair that was handed back says,
pub pair_says : (g : ℕ) (t : List ℤ) (a b : Row) → Some (a, b) ≡ fixed_pair g t
    → (pair_below (fixed_collide g t) (rows t) ≡ true) × (a.0 ≡ pair_first (fixed_collide g t) (rows t)) × (b.0 ≡ pair_second (fixed_collide g t) (rows t))
unfolding fixed_pair
pair_says g t a b e = go (pair_below (fixed_collide g t) (rows t)) refl
  where
    go : (x : Bool) → pair_below (fixed_collide g t) (rows t) ≡ x
        → (pair_below (fixed_collide g t) (rows t) ≡ true) × (a.0 ≡ pair_first (fixed_collide g t) (rows t)) × (b.0 ≡ pair_second (fixed_collide g t) (rows t))
    go true p =
        let q : ◌≡◌ {A = Option (Row × Row)} (Some (a, b)) (Some (row_of (pair_first (fixed_collide g t) (rows t)), row_of (pair_second (fixed_collide g t) (rows t)))) = rw (p, fixed_pair) at e in
        let r : ◌≡◌ {A = Row × Row} (a, b) (row_of (pair_first (fixed_collide g t) (rows t)), row_of (pair_second (fixed_collide g t) (rows t))) = cc in
        (p, ap (λ (z : Row × Row). z.0.0) r, ap (λ (z : Row × Row). z.1.0) r)
    go false p = let q : ◌≡◌ {A = Option (Row × Row)} (Some (a, b)) None = rw (p, fixed_pair) at e in cc

-- and what it says that there is none.
pub nothing_says : (g : ℕ) (t : List ℤ) → None ≡ fixed_pair g t → pair_below (fixed_collide g t) (rows t) ≡ false
unfolding fixed_pair
nothing_says g t e = go (pair_below (fixed_collide g t) (rows t)) refl
  where
    go : (x : Bool) → pair_below (fixed_collide g t) (rows t) ≡ x → x ≡ false
    go false p = refl
    go true p =
        let q : ◌≡◌ {A = Option (Row × Row)} None (Some (row_of (pair_first (fixed_collide g t) (rows t)), row_of (pair_second (fixed_collide g t) (rows t)))) = rw (p, fixed_pair) at e in
        cc

-- ---- the test of two rows

-- Two rows that both have an offset collide as fixed ones where their buffers do;
pub both_fixed : (g : ℕ) (t : List ℤ) (a b : ℕ) {x y : Request} (o p : Offset) {met : Bool} → x ≡ request t a → y ≡ request t b → x.offset ≡ Some o → y.offset ≡ Some p
    → met ≡ collides (buffer g x o) (buffer g y p) → met ≡ fixed_collide g t a b
unfolding fixed_collide
both_fixed g t a b {x} {y} o p q r first second e =
    let one = has_says t a o (ap (λ (z : Request). z.offset) (sym q) ∙ first) in
    let two = has_says t b p (ap (λ (z : Request). z.offset) (sym r) ∙ second) in
    e ∙ ap₂ (λ (z w : Request). collides (buffer g z o) (buffer g w p)) q r ∙ rw (one.0, two.0) (ap₂ (λ (z w : Offset). collides (buffer g (request t a) z) (buffer g (request t b) w)) one.1 two.1)

-- where one has none, they do not.
pub first_loose : (g : ℕ) (t : List ℤ) (a b : ℕ) {x : Request} → x ≡ request t a → x.offset ≡ None → false ≡ fixed_collide g t a b
unfolding fixed_collide
first_loose g t a b q e = rw (none_says t a (ap (λ (z : Request). z.offset) (sym q) ∙ e))

pub second_loose : (g : ℕ) (t : List ℤ) (a b : ℕ) {y : Request} → y ≡ request t b → y.offset ≡ None → false ≡ fixed_collide g t a b
unfolding fixed_collide
second_loose g t a b q e = rw (none_says t b (ap (λ (z : Request). z.offset) (sym q) ∙ e), and-false (fixed t a))

-- A row that is not fixed is the first of no pair, so that the outer scan passes it.
pub loose_passed : (g : ℕ) (t : List ℤ) (n a : ℕ) → fixed t a ≡ false → a < n → Outer (fixed_collide g t) n a → Outer (fixed_collide g t) n (a + 1)
unfolding partner has_partner fixed_collide
loose_passed g t n a f l h =
    let x = first_is (fixed_collide g t a) (a + 1) n (omega arith) in
    pass h l
    (le-ltb (partner (fixed_collide g t) n a) n
    (⊎_elim (λ m. contrary (x.at m) (rw (f, fixed_collide))) (λ m. m) (lt_or_le (first_in (fixed_collide g t a) (a + 1) n) n)))
