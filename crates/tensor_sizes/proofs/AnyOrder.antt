-- Law: the order of the dimensions does not matter. Shapes that are the same but for the order of their dimensions get the same answer, refusals too.
use Prim.Native.Nat.{ℕ, suc, ◌*◌}
use Rattle.std.specs.Prelude.{Bool, true, ◌||◌, ◌≡◌, refl, ℤ, pos, length}
use Rattle.std.proofs.Math.Bool.{false, Bool-set}
use mathlib.Core.List.Perm
use mathlib.Core.List.{List, [], ◌∷◌, foldr, prod, Perm}
use Rattle.std.proofs.Common.{sym, ◌∙◌, ap}
use Rattle.std.proofs.Math.Nat.{ℕ_set, mul_left_comm}
use Rattle.std.specs.Int.Signed.{lt_z}
use Rattle.words.specs.Words.{natural}
use Rattle.tensor_sizes.specs.ByteSize.{elements, has_negative, byte_size_of}

or_exchanged : (a b c : Bool) → a || (b || c) ≡ b || (a || c)
or_exchanged true true c = refl
or_exchanged true false c = refl
or_exchanged false b c = refl

counted : (xs : List ℤ) → foldr (λ (z : ℤ) (n : ℕ). suc n) 0 xs ≡ length xs
counted [] = refl
counted (x ∷ xs) = ap suc (counted xs)

module _ {xs ys : List ℤ} (p : Perm xs ys) where
  -- There are as many of them,
  pub as_many : length xs ≡ length ys
  as_many = sym (counted xs) ∙ Perm.foldr-eq ℕ_set (λ (z : ℤ) (n : ℕ). suc n) (λ a b n. refl) p 0 ∙ counted ys

  -- as many elements,
  pub same_elements : elements xs ≡ elements ys
  unfolding elements prod
  same_elements = Perm.foldr-eq ℕ_set ◌*◌ mul_left_comm (Perm.map natural p) 1

  -- and one below 0 in both or in neither;
  pub same_negative : has_negative xs ≡ has_negative ys
  unfolding has_negative
  same_negative =
      Perm.foldr-eq Bool-set (λ (z : ℤ) (rest : Bool). lt_z z (pos 0) || rest) (λ a b rest. or_exchanged (lt_z a (pos 0)) (lt_z b (pos 0)) rest) p false

  -- so the answer is the same.
  pub any_order : (code : ℤ) → byte_size_of xs code ≡ byte_size_of ys code
  unfolding byte_size_of
  any_order code = rw (as_many, same_negative, same_elements)
