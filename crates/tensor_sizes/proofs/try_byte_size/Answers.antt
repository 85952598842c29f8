-- `tensor_sizes::try_byte_size` meets its contract: each arm of the match gives the bytes of its codes' elements, and the last one refuses the rest.
use Prim.Native.Nat.{ℕ}
use mathlib.Core.Logic.{inl, inr, ⊎_elim}
use mathlib.Core.Path.{◌≡◌, refl, sym, ◌∙◌, ap}
use native.Mathlib.Omega.{arith}
use borrow.Author.Tests.{lt-ltb, le-ltb, eq-eqb}
use Rattle.answer.specs.Refusals.{told}
use Rattle.bounded.proofs.Causes.{given, next}
use Rattle.words.specs.Words.{natural}
use Rattle.tensor_sizes.specs.ByteSize.{elements_size_of}
use Rattle.tensor_sizes.specs.Elements.{Element, float32, float16, int32, uint8, int64, bool, int16, complex64, int8, float64, complex128, uint64}
use Rattle.tensor_sizes.proofs.ElementBytes.{element_bytes_lem, element_or_none, some_bytes}
use Rattle.tensor_sizes.proofs.SizeLaws.{size_given, elements_decide}
use Rattle.tensor_sizes.proofs.Codes.{in_arm, in_keys}
use Rattle.tensor_sizes.proofs.try_byte_size.Goals as goal
use Rattle.tensor_sizes.proofs.try_byte_size.Goals.{in-0, in-1, in-3, in-4, in-11}

pub returns-then-dimensions-gt-GREATEST_DIMENSIONS : goal.returns-then-dimensions-gt-GREATEST_DIMENSIONS
returns-then-dimensions-gt-GREATEST_DIMENSIONS c = ap told c.of.ensures ∙ size_given _ _ (given (lt-ltb _ _ c.if-dimensions-gt-GREATEST_DIMENSIONS.true))

-- the codes of the last arm have no element
pub returns-in_default : goal.returns-in_default
returns-in_default c =
    let none = ⊎_elim (λ e. absurd (other e refl)) (λ z. z) (element_or_none _) in
    ap told c.of-in_default.ensures ∙ size_given _ _ (next (le-ltb _ _ c.if-dimensions-gt-GREATEST_DIMENSIONS.false) (given (eq-eqb _ _ none)))
  where
    other : {code bytes : ℕ} → Element code bytes → natural c.args.type_code ≡ code → ⊥
    other float32 p = c.in_default.in_default-own.rest.0.0.0.0.1 (inl (in_keys _ float32 p))
    other int32 p = c.in_default.in_default-own.rest.0.0.0.0.1 (inr (in_keys _ int32 p))
    other float16 p = c.in_default.in_default-own.rest.0.0.0.1 (inl (in_keys _ float16 p))
    other int16 p = c.in_default.in_default-own.rest.0.0.0.1 (inr (in_keys _ int16 p))
    other uint8 p = c.in_default.in_default-own.rest.0.0.1 (inl (in_keys _ uint8 p))
    other bool p = c.in_default.in_default-own.rest.0.0.1 (inr (inl (in_keys _ bool p)))
    other int8 p = c.in_default.in_default-own.rest.0.0.1 (inr (inr (in_keys _ int8 p)))
    other int64 p = c.in_default.in_default-own.rest.0.1 (inl (in_keys _ int64 p))
    other complex64 p = c.in_default.in_default-own.rest.0.1 (inr (inl (in_keys _ complex64 p)))
    other float64 p = c.in_default.in_default-own.rest.0.1 (inr (inr (inl (in_keys _ float64 p))))
    other uint64 p = c.in_default.in_default-own.rest.0.1 (inr (inr (inr (in_keys _ uint64 p))))
    other complex128 p = c.in_default.in_default-own.rest.1 (in_keys _ complex128 p)

-- what the match gives is an element's size
pub returns : goal.returns
returns c =
    let x = c.args.type_code in
    let h = c.ranges.type_code.sfits in
    let e : Element (natural c.args.type_code) c.match-type_code.element_bytes = elim c.match-type_code.branch [
      | in-0 w ↦ ⊎_elim (λ e. in_arm x h float32 e w.element_bytes-is) (λ e. in_arm x h int32 e w.element_bytes-is) w.in-0.in-0-own.keys1
      | in-1 w ↦ ⊎_elim (λ e. in_arm x h float16 e w.element_bytes-is) (λ e. in_arm x h int16 e w.element_bytes-is) w.in-1.in-1-own.keys2
      | in-3 w ↦ ⊎_elim (λ e. in_arm x h uint8 e w.element_bytes-is) (⊎_elim (λ e. in_arm x h bool e w.element_bytes-is) (λ e. in_arm x h int8 e w.element_bytes-is)) w.in-3.in-3-own.keys3
      | in-4 w ↦ ⊎_elim (λ e. in_arm x h int64 e w.element_bytes-is) (⊎_elim (λ e. in_arm x h complex64 e w.element_bytes-is) (⊎_elim (λ e. in_arm x h float64 e w.element_bytes-is) (λ e. in_arm x h uint64 e w.element_bytes-is))) w.in-4.in-4-own.keys4
      | in-11 w ↦ in_arm x h complex128 w.in-11.in-11-own.keys5 w.element_bytes-is
    ] in
    let b = element_bytes_lem e in
    c.size_of.ensures
    ∙ ap (elements_size_of _) (sym b)
    ∙ elements_decide _ _ c.if-dimensions-gt-GREATEST_DIMENSIONS.false (λ z. omega (arith, some_bytes e, b, z))
