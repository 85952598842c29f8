-- Law: what is answered for a shape and a code, and when, in document 02's words: 2 for more than eight dimensions, 24 for a code without an element, 5 for
-- a dimension below 0, 7 for a byte size above 16,777,216; each only where none before it holds; else done, with the product of the dimensions and the
-- element's bytes as the need. No need is above the limit, and a dimension of 0 among any others makes the size 0.
use Rattle.std.specs.Prelude.{ℕ, zero, suc, ◌*◌, ◌<◌, ◌≤◌, Bool, not, ◌⊎◌, ◌≡◌, ℤ, pos, ◌<ℤ◌, ◌≤ℤ◌}
use Rattle.std.proofs.Math.Bool.{true, false}
use mathlib.Core.List.{List, [], ◌∷◌, map, prod}
use Rattle.std.proofs.Common.{inl, inr, ◌∙◌, subst, le_of_suc-le-suc, mul-zero, zero-mul}
use Rattle.std.proofs.Math.Path.{refl, sym, ap}
use native.Mathlib.Omega.{arith}
use borrow.Author.Tests.{lt-ltb, le-ltb, ltb-false, eq-eqb}
use Rattle.std.proofs.Math.Dec.{T}
use Rattle.std.proofs.Math.ListN.{length}
use Rattle.std.specs.Int.Signed.{lt_z, lt_z_yes, lt_z_no, clash_ℤ}
use Rattle.answer.specs.Answer.{refused, refused_at, refused_need, done_with, too_many, bad_type_code, bad_row, need_exceeds_space}
use Rattle.answer.specs.declared.Answer.{Answer}
use Rattle.bounded.proofs.Boolean.{lt_or_le, contrary}
use Rattle.bounded.proofs.Causes.{given, next, none_left, by_causes}
use Rattle.request_table.specs.Limits.{greatest_space}
use Rattle.words.specs.WordOrders.{within}
use Rattle.words.specs.Words.{natural, word_at}
use Rattle.tensor_sizes.specs.ByteSize.{greatest_dimensions, element_bytes, elements, has_negative, size_causes, byte_size_of}
use Rattle.tensor_sizes.specs.Elements.{Element}
use Rattle.tensor_sizes.proofs.ElementBytes.{element_bytes_lem, element_or_none, some_bytes, small_code}
use Rattle.tensor_sizes.proofs.SizeLaws.{elements_given, negative_told, size_given, elements_decide, negative_seen, negative_stands}

zero_elements : (shape : List ℤ) (k : ℕ) → k < length shape → word_at shape k ≡ pos 0 → elements shape ≡ 0
unfolding elements prod natural
zero_elements [] k l z = absurd (omega arith)
zero_elements (x ∷ xs) zero l z = ap (λ (d : ℤ). natural d * elements xs) z ∙ zero-mul _
zero_elements (x ∷ xs) (suc k) l z = ap (λ (n : ℕ). natural x * n) (zero_elements xs k (le_of_suc-le-suc l) z) ∙ mul-zero (natural x)

module _ (shape : List ℤ) (code : ℤ) where
  -- The code is that of a type whose elements have so many bytes.
  pub record Typed (bytes : ℕ) : Type 0 where
    pub key : ℕ
    pub code_is : code ≡ pos key
    pub element : Element key bytes

  -- No dimension is below 0.
  abbrev pub Natural : Type 0
  Natural = (k : ℕ) → k < length shape → pos 0 ≤ℤ word_at shape k

  -- What the answer may be.
  pub data SizeOutcome : Type 0 where
    too_many_case : greatest_dimensions < length shape → byte_size_of shape code ≡ refused too_many → SizeOutcome
    no_type : length shape ≤ greatest_dimensions → ((bytes : ℕ) → Typed bytes → ⊥) → byte_size_of shape code ≡ refused bad_type_code → SizeOutcome
    negative : (bytes k : ℕ) → length shape ≤ greatest_dimensions → Typed bytes → k < length shape → word_at shape k <ℤ pos 0
        → byte_size_of shape code ≡ refused_at bad_row 0 → SizeOutcome
    too_large : (bytes : ℕ) → length shape ≤ greatest_dimensions → Typed bytes → Natural → greatest_space < prod ◌*◌ 1 (map natural shape) * bytes
        → byte_size_of shape code ≡ refused_need need_exceeds_space 0 → SizeOutcome
    sized : (bytes : ℕ) → length shape ≤ greatest_dimensions → Typed bytes → Natural → prod ◌*◌ 1 (map natural shape) * bytes ≤ greatest_space
        → byte_size_of shape code ≡ done_with (prod ◌*◌ 1 (map natural shape) * bytes) → SizeOutcome

  typed : {bytes : ℕ} → Element (natural code) bytes → Typed bytes
  typed e = record { key = natural code; code_is = (within code 12 (omega arith) (small_code e)).is; element = e }

  -- A code has the bytes of its type.
  pub typed_bytes : {bytes : ℕ} → Typed bytes → element_bytes (natural code) ≡ bytes
  unfolding natural
  typed_bytes t = ap (λ (z : ℤ). element_bytes (natural z)) t.code_is ∙ element_bytes_lem t.element

  some : {bytes : ℕ} → Typed bytes → element_bytes (natural code) ≡ 0 → ⊥
  some t z = omega (arith, some_bytes t.element, typed_bytes t, z)

  none_below : has_negative shape ≡ false → Natural
  none_below e k l = lt_z_no (go (lt_z (word_at shape k) (pos 0)) refl)
    where
      go : (b : Bool) → lt_z (word_at shape k) (pos 0) ≡ b → T (not b)
      go true n = contrary (negative_seen shape k l n) e
      go false n = tt

  none_seen : Natural → has_negative shape ≡ false
  none_seen n = go (has_negative shape) refl
    where
      go : (b : Bool) → has_negative shape ≡ b → b ≡ false
      go true e = let r = negative_stands shape e in clash_ℤ (lt_z_yes (subst T (sym r.2) tt)) (n r.0 r.1)
      go false e = refl

  -- So it is answered.
  pub size_outcome : SizeOutcome
  unfolding elements
  size_outcome = go (lt_or_le greatest_dimensions (length shape)) (element_or_none (natural code)) (has_negative shape) refl (lt_or_le greatest_space (elements shape * element_bytes (natural code)))
    where
      go : (greatest_dimensions < length shape) ⊎ (length shape ≤ greatest_dimensions) → Element (natural code) (element_bytes (natural code)) ⊎ (element_bytes (natural code) ≡ 0)
          → (b : Bool) → has_negative shape ≡ b → (greatest_space < elements shape * element_bytes (natural code)) ⊎ (elements shape * element_bytes (natural code) ≤ greatest_space) → SizeOutcome
      go (inl l) x b n s = too_many_case l (sym (size_given shape code (given (lt-ltb _ _ l))))
      go (inr l) (inr z) b n s = no_type l (λ bytes t. some t z) (sym (size_given shape code (next (le-ltb _ _ l) (given (eq-eqb _ _ z)))))
      go (inr l) (inl e) true n s =
          let t = typed e in
          let r = negative_stands shape n in
          negative _ r.0 l t r.1 (lt_z_yes (subst T (sym r.2) tt)) (sym (elements_decide shape code l (some t)) ∙ sym (negative_told shape _ n))
      go (inr l) (inl e) false n (inl s) = let t = typed e in too_large _ l t (none_below n) s (sym (elements_decide shape code l (some t)) ∙ sym (elements_given shape _ (next n (given (lt-ltb _ _ s)))))
      go (inr l) (inl e) false n (inr s) = let t = typed e in sized _ l t (none_below n) s (sym (elements_decide shape code l (some t)) ∙ sym (elements_given shape _ (next n (next (le-ltb _ _ s) none_left))))

  -- No answer has a need above the limit.
  pub need_within : (byte_size_of shape code).need ≤ greatest_space
  unfolding byte_size_of
  need_within =
      by_causes (λ (x : Answer). x.need ≤ greatest_space) (size_causes shape code) _ (omega arith, (omega arith, (omega arith, (omega arith, tt))))
      (λ n. ltb-false _ _ n.1.1.1.0)

  -- A dimension of 0 among any others makes the size 0.
  pub zero_dimension : (bytes k : ℕ) → length shape ≤ greatest_dimensions → Typed bytes → Natural → k < length shape → word_at shape k ≡ pos 0
      → byte_size_of shape code ≡ done_with 0
  zero_dimension bytes k l t n m z =
      let none : elements shape * element_bytes (natural code) ≡ 0 = ap (λ (e : ℕ). e * element_bytes (natural code)) (zero_elements shape k m z) ∙ zero-mul _ in
      sym (elements_decide shape code l (some t)) ∙ sym (elements_given shape _ (next (none_seen n) (next (le-ltb greatest_space (elements shape * element_bytes (natural code)) (omega (arith, none))) none_left))) ∙ ap done_with none
