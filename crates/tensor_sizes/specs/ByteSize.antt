-- Sizes from shape and type (document 02, order 1): "a part that takes up to eight dimensions and a TensorFlow Lite schema type code and gives a byte
-- size, carried as the need". A shape is the list of its dimensions, signed words. A negative word reads as a number above every limit (`words`): no code
-- is one, and a shape with a negative dimension is refused before its elements are counted.
use Rattle.std.specs.Prelude.{ℕ, ◌*◌, Bool, false, ◌||◌, eqb, ltb, ℤ, pos, length}
use mathlib.Core.List.{List, [], ◌∷◌, foldr, map, prod}
use Rattle.std.specs.Int.Signed.{lt_z}
use Rattle.answer.specs.Answer as A
use Rattle.answer.specs.declared.Answer.{Answer}
use Rattle.bounded.specs.Causes.{Cause, ◌⇒◌, first_cause}
use Rattle.request_table.specs.Limits.{greatest_space}
use Rattle.words.specs.Words.{natural}

-- "up to eight dimensions"
abbrev pub greatest_dimensions : ℕ
greatest_dimensions = 8

-- The code is one of these.
unfoldable pub one_of : List ℕ → ℕ → Bool
one_of codes code = foldr (λ (k : ℕ) (rest : Bool). eqb code k || rest) false codes

-- "The element size goes by the code: 0, 2 are four bytes; 1, 7 two; 3, 6, 9 one; 4, 8, 10, 12 eight; 11 sixteen; 5 and all other codes are refused": these
-- have no bytes.
unfoldable pub element_bytes : ℕ → ℕ
element_bytes code =
    first_cause
    ((one_of (0 ∷ 2 ∷ []) code ⇒ 4)
    ∷ (one_of (1 ∷ 7 ∷ []) code ⇒ 2)
    ∷ (one_of (3 ∷ 6 ∷ 9 ∷ []) code ⇒ 1)
    ∷ (one_of (4 ∷ 8 ∷ 10 ∷ 12 ∷ []) code ⇒ 8)
    ∷ (one_of (11 ∷ []) code ⇒ 16)
    ∷ [])
    0

-- The elements of a shape: the product of its dimensions. "No dimensions means one element."
unfoldable pub elements : List ℤ → ℕ
elements shape = prod ◌*◌ 1 (map natural shape)

-- "A dimension below 0".
unfoldable pub has_negative : List ℤ → Bool
has_negative shape = foldr (λ (z : ℤ) (rest : Bool). lt_z z (pos 0) || rest) false shape

-- "A dimension below 0 is number 5 with a = 0, a byte size above 16,777,216 is number 7 with need 0": the shape, once the element's bytes are known.
abbrev pub dimension_causes : List ℤ → ℕ → List (Cause Answer)
dimension_causes shape bytes =
    (has_negative shape ⇒ A.refused_at A.bad_row 0)
    ∷ (ltb greatest_space (elements shape * bytes) ⇒ A.refused_need A.need_exceeds_space 0)
    ∷ []

-- "Order: 2 for more than eight, then 24, 5, 7."
abbrev pub size_causes : List ℤ → ℤ → List (Cause Answer)
size_causes shape code =
    (ltb greatest_dimensions (length shape) ⇒ A.refused A.too_many)
    ∷ (eqb (element_bytes (natural code)) 0 ⇒ A.refused A.bad_type_code)
    ∷ dimension_causes shape (element_bytes (natural code))

-- The answer for a shape and an element of so many bytes.
unfoldable pub elements_size_of : List ℤ → ℕ → Answer
elements_size_of shape bytes = first_cause (dimension_causes shape bytes) (A.done_with (elements shape * bytes))

-- The answer for a shape and a code: a refusal, or "a byte size, carried as the need".
unfoldable pub byte_size_of : List ℤ → ℤ → Answer
byte_size_of shape code = first_cause (size_causes shape code) (A.done_with (elements shape * element_bytes (natural code)))
