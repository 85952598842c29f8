-- Laws of the definitions of specs/Replaced.antt.
use Prim.Native.Nat.{ℕ, zero, suc, ◌+◌, ◌<◌, ◌≤◌}
use Rattle.std.specs.Prelude.{List, ◌≡◌, length, get_or, set}
use Rattle.std.proofs.Math.Logic.{⊎_elim}
use Rattle.std.proofs.Math.Path.{refl}
use Rattle.std.proofs.Common.{◌∙◌, ap₂, eq-or-lt_of_le, le_of_suc-le-suc, arith, get_or-set_same}
use Rattle.std.proofs.Math.Numerals.{add-one}
use Rattle.std.proofs.Math.ListN.{length-set}
use Rattle.std.proofs.Math.Seq.{get_or-set_other}
use Rattle.bounded.specs.Replaced.{replaced}

module _ {A : Type 0} (f : ℕ → A) where
  -- It is as long as it was.
  pub replaced_length : (n : ℕ) (xs : List A) → length (replaced f n xs) ≡ length xs
  unfolding replaced
  replaced_length zero xs = refl
  replaced_length (suc n) xs = simp length-set (replaced_length n xs)

  -- The entries below n are the function's.
  pub replaced_at : (n : ℕ) (xs : List A) (d : A) (i : ℕ) → i < n → n ≤ length xs → get_or (replaced f n xs) i d ≡ f i
  unfolding replaced
  replaced_at zero xs d i h l = absurd (omega arith)
  replaced_at (suc n) xs d i h l =
      ⊎_elim
      (λ e. rw e (get_or-set_same (replaced f n xs) n (f n) d (omega (arith, replaced_length n xs))))
      (λ m. get_or-set_other (replaced f n xs) n i (f n) d (omega arith) ∙ replaced_at n xs d i m (omega arith))
      (eq-or-lt_of_le (le_of_suc-le-suc h))

  -- The entries from n on stay.
  pub replaced_past : (n : ℕ) (xs : List A) (d : A) (i : ℕ) → n ≤ i → get_or (replaced f n xs) i d ≡ get_or xs i d
  unfolding replaced
  replaced_past zero xs d i h = refl
  replaced_past (suc n) xs d i h = get_or-set_other (replaced f n xs) n i (f n) d (omega arith) ∙ replaced_past n xs d i (omega arith)

  -- A loop's start.
  pub replaced_none : (xs : List A) → replaced f 0 xs ≡ xs
  unfolding replaced
  replaced_none xs = refl

  -- A loop's turn.
  pub replaced_more : (n : ℕ) (xs : List A) → set (replaced f n xs) n (f n) ≡ replaced f (n + 1) xs
  unfolding replaced
  replaced_more n xs = rw add-one

-- Functions that agree below n replace alike.
pub replaced_same : {A : Type 0} (f g : ℕ → A) (n : ℕ) (xs : List A) → ((i : ℕ) → i < n → f i ≡ g i) → replaced f n xs ≡ replaced g n xs
unfolding replaced
replaced_same f g zero xs h = refl
replaced_same f g (suc n) xs h = ap₂ (λ l a. set l n a) (replaced_same f g n xs (λ i l. h i (omega arith))) (h n (omega arith))
