-- Laws of the definitions of specs/TwoEach.antt.
use Rattle.std.specs.Prelude.{ℕ, ◌+◌, ◌*◌, ◌<◌, ◌/◌, ◌%◌, Bool, List, ◌≡◌, eqb, set}
use Rattle.std.proofs.Math.Bool.{true, false}
use Rattle.std.proofs.Common.{sym, ◌∙◌, ap, arith, eq-eqb, ne_eqb}
use Rattle.std.proofs.Math.Path.{ap₂}
use Rattle.bounded.specs.Replaced.{replaced}
use Rattle.bounded.proofs.Replaced.{replaced_more}
use Rattle.bounded.specs.TwoEach.{two_each}

module _ {A : Type 0} (f g : ℕ → A) where
  entry : (i : ℕ) (b : Bool) (t : ℕ) → eqb (i % 2) 0 ≡ b → i / 2 ≡ t → two_each f g i ≡ elim b [ true ↦ f t | false ↦ g t ]
  unfolding two_each
  entry i b t e h = ap₂ (λ (x : Bool) (n : ℕ). elim x [ true ↦ f n | false ↦ g n ]) e h

  -- Entry 2t is the first of the two,
  pub two_first : (t : ℕ) → two_each f g (t * 2) ≡ f t
  two_first t = entry (t * 2) true t (eq-eqb (t * 2 % 2) 0 (omega arith)) (omega arith)

  -- and entry 2t + 1 the second.
  pub two_second : (t : ℕ) → two_each f g (t * 2 + 1) ≡ g t
  two_second t = entry (t * 2 + 1) false t (ne_eqb ((t * 2 + 1) % 2) 0 (omega arith)) (omega arith)

  -- A loop's turn.
  pub two_more : (t : ℕ) (xs : List A) → set (set (replaced (two_each f g) (t * 2) xs) (t * 2) (f t)) (t * 2 + 1) (g t) ≡ replaced (two_each f g) ((t + 1) * 2) xs
  two_more t xs =
      let one = ap (λ (a : A). set (replaced (two_each f g) (t * 2) xs) (t * 2) a) (sym (two_first t)) ∙ replaced_more (two_each f g) (t * 2) xs in
      let all : t * 2 + 1 + 1 ≡ (t + 1) * 2 = omega arith in
      ap₂ (λ (ys : List A) (a : A). set ys (t * 2 + 1) a) one (sym (two_second t))
      ∙ replaced_more (two_each f g) (t * 2 + 1) xs
      ∙ ap (λ (n : ℕ). replaced (two_each f g) n xs) all

-- Functions that agree below n give the same entries below 2n.
pub two_same : {A : Type 0} (f g f' g' : ℕ → A) (n : ℕ) → ((t : ℕ) → t < n → f t ≡ f' t) → ((t : ℕ) → t < n → g t ≡ g' t)
    → (i : ℕ) → i < n * 2 → two_each f g i ≡ two_each f' g' i
unfolding two_each
two_same {A} f g f' g' n p q i l = go (eqb (i % 2) 0)
  where
    go : (b : Bool) → ◌≡◌ {A = A} (elim b [ true ↦ f (i / 2) | false ↦ g (i / 2) ]) (elim b [ true ↦ f' (i / 2) | false ↦ g' (i / 2) ])
    go true = p (i / 2) (omega arith)
    go false = q (i / 2) (omega arith)
