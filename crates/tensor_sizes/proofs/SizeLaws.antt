-- The answer as the code comes to it: the number of dimensions and the code, a dimension below 0, then the byte size; and what one dimension more adds.
use Rattle.std.specs.Prelude.{ℕ, zero, suc, ◌*◌, ◌<◌, ◌≤◌, Bool, true, ◌||◌, ◌≡◌, ℤ, pos, length}
use Rattle.std.proofs.Math.Bool.{or-true}
use Rattle.std.proofs.Common.{true≢false, ⊎_elim, sym, ◌∙◌, ap, one-mul, mul-one, mul_assoc, le_of_suc-le-suc, arith, le-ltb, ne_eqb}
use mathlib.Core.List.{List, [], ◌∷◌, ◌++◌, map, map-append, prod, prod-append}
use Rattle.std.proofs.Math.Path.{refl}
use Rattle.std.specs.Int.Signed.{lt_z}
use Rattle.answer.specs.Answer.{done_with, refused_at, bad_row}
use Rattle.answer.specs.declared.Answer.{Answer}
use Rattle.bounded.proofs.Boolean.{either}
use Rattle.bounded.specs.Causes.{Gives}
use Rattle.bounded.proofs.Causes.{given, next}
use Rattle.words.specs.Words.{natural, word_at}
use Rattle.tensor_sizes.specs.ByteSize.{greatest_dimensions, element_bytes, elements, has_negative, dimension_causes, size_causes, elements_size_of, byte_size_of}

-- ---- the checks, as the code goes through them

-- What is given for the elements of a shape is their answer.
pub elements_given : (shape : List ℤ) (bytes : ℕ) {x : Answer} → Gives (dimension_causes shape bytes) (done_with (elements shape * bytes)) x → x ≡ elements_size_of shape bytes
unfolding elements_size_of
elements_given shape bytes g = g.is

-- A dimension below 0 is told first, whatever the product.
pub negative_told : (shape : List ℤ) (bytes : ℕ) → has_negative shape ≡ true → refused_at bad_row 0 ≡ elements_size_of shape bytes
negative_told shape bytes e = elements_given shape bytes (given e)

module _ (shape : List ℤ) (code : ℤ) where
  -- What is given for a shape and a code is their answer,
  pub size_given : {x : Answer} → Gives (size_causes shape code) (done_with (elements shape * element_bytes (natural code))) x → x ≡ byte_size_of shape code
  unfolding byte_size_of
  size_given g = g.is

  -- and past the number of dimensions and the code, that of the elements is.
  pub elements_decide : length shape ≤ greatest_dimensions → (element_bytes (natural code) ≡ 0 → ⊥) → elements_size_of shape (element_bytes (natural code)) ≡ byte_size_of shape code
  unfolding elements_size_of
  elements_decide l f = size_given (next (le-ltb _ _ l) (next (ne_eqb _ _ f) record { is = refl }))

-- ---- one dimension more

-- No dimensions are one element,
pub no_elements : elements [] ≡ 1
unfolding elements prod
no_elements = refl

-- and one dimension more multiplies them.
pub elements_behind : (shape : List ℤ) (z : ℤ) → elements (shape ++ (z ∷ [])) ≡ elements shape * natural z
unfolding elements prod
elements_behind shape z =
    ap (prod ◌*◌ 1) (map-append natural shape (z ∷ []))
    ∙ prod-append ◌*◌ 1 one-mul mul_assoc (map natural shape) (natural z ∷ [])
    ∙ ap (λ (n : ℕ). prod ◌*◌ 1 (map natural shape) * n) (mul-one (natural z))

-- A dimension below 0 is seen,
pub negative_seen : (shape : List ℤ) (k : ℕ) → k < length shape → lt_z (word_at shape k) (pos 0) ≡ true → has_negative shape ≡ true
unfolding has_negative
negative_seen [] k l e = absurd (omega arith)
negative_seen (x ∷ xs) zero l e = ap (λ (b : Bool). b || has_negative xs) e
negative_seen (x ∷ xs) (suc k) l e = ap (λ (b : Bool). lt_z x (pos 0) || b) (negative_seen xs k (le_of_suc-le-suc l) e) ∙ or-true (lt_z x (pos 0))

-- and where one is seen it stands.
pub negative_stands : (shape : List ℤ) → has_negative shape ≡ true → (k : ℕ) × (k < length shape) × (lt_z (word_at shape k) (pos 0) ≡ true)
unfolding has_negative
negative_stands [] e = absurd (true≢false (sym e))
negative_stands (x ∷ xs) e = ⊎_elim (λ h. (0, omega arith, h)) (λ h. let r = negative_stands xs h in (suc r.0, omega (arith, r.1), r.2)) (either (lt_z x (pos 0)) (has_negative xs) e)
