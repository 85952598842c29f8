-- The end of a life as the code keeps it (`end_by`): what a use more adds to it, what a use says of it by its role, and that the last operator of the life
-- is the one before.
use Prim.Native.Nat.{ℕ, ◌+◌, ◌-◌, ◌<◌, ◌≤◌, max}
use mathlib.Core.Bool.{Bool, true, false, ◌||◌}
use mathlib.Core.Path.{◌≡◌, refl, ◌∙◌}
use native.Mathlib.Omega.{arith}
use borrow.Author.Tests.{eq-eqb, ne_eqb}
use lib.Dec.{eqb}
use Rattle.bounded.specs.Last.{last_in}
use Rattle.bounded.proofs.Last.{last_before_end, before_end, end_bound, end_after, end_none, end_same, end_either}
use Rattle.tensor_lifetimes.specs.Gathered.{end_by}

-- It is no greater than the number of operators.
pub end_high : (output : Bool) (p : ℕ → Bool) (n : ℕ) → end_by output p n ≤ n
unfolding end_by
end_high true p n = omega arith
end_high false p n = end_bound p n

-- Where some operator names the tensor, it is after that one.
pub end_above : (output : Bool) (p : ℕ → Bool) (n m : ℕ) → m < n → p m ≡ true → m < end_by output p n
unfolding end_by
end_above true p n m l e = l
end_above false p n m l e = before_end p n m l e

-- The last operator of the life is the one before.
pub last_before : (output : Bool) (p : ℕ → Bool) (n : ℕ) → end_by output p n - 1 ≡ elim output [ true ↦ n - 1 | false ↦ last_in p n ]
unfolding end_by
last_before true p n = refl
last_before false p n = last_before_end p n

-- With one use more it is the greater of what was known and what the use says.
pub end_more : (a b : Bool) (p q : ℕ → Bool) (n : ℕ) → end_by (a || b) (λ m. p m || q m) n ≡ max (end_by a p n) (end_by b q n)
unfolding end_by
end_more true true p q n = omega arith
end_more true false p q n = omega (arith, end_bound q n)
end_more false true p q n = omega (arith, end_bound p n)
end_more false false p q n = end_either p q n

-- Two that agree have the same end.
pub end_alike : (a b : Bool) (p q : ℕ → Bool) (n : ℕ) → a ≡ b → ((m : ℕ) → p m ≡ q m) → end_by a p n ≡ end_by b q n
unfolding end_by
end_alike a true p q n e h = rw (e, end_by)
end_alike a false p q n e h = rw (e, end_by) (end_same p q n (λ m l. h m))

-- ---- what one use says

module _ (output : Bool) (p : ℕ → Bool) (n : ℕ) where
  -- A use that makes the tensor a model output: the number of operators.
  pub end_output : output ≡ true → end_by output p n ≡ n
  unfolding end_by
  end_output e = rw (e, end_by)

  -- One that names it by an operator: one past that operator.
  pub end_at : (o : ℕ) → output ≡ false → o < n → ((m : ℕ) → p m ≡ eqb o m) → end_by output p n ≡ o + 1
  unfolding end_by
  end_at o e l f = rw (e, end_by) (end_after p n o record { within = l; passes = f o ∙ eq-eqb o o refl; after = λ k m z. f k ∙ ne_eqb o k (omega arith) })

  -- One of another tensor: 0.
  pub end_nothing : output ≡ false → ((m : ℕ) → p m ≡ false) → end_by output p n ≡ 0
  unfolding end_by
  end_nothing e f = rw (e, end_by) (end_none p n (λ m l. f m))
