-- Sizes, computed: no dimensions, the limit from both sides, and the greatest dimensions beside a 0, first and last.
use Rattle.std.specs.Prelude.{ℕ, ◌≡◌, refl, ℤ, pos, negsuc, replicate}
use mathlib.Core.List.{List, [], ◌∷◌, ◌++◌, prod}
use Rattle.answer.specs.Answer.{refused, refused_at, refused_need, done_with, too_many, bad_type_code, bad_row, need_exceeds_space}
use Rattle.words.specs.Words.{natural}
use Rattle.tensor_sizes.specs.ByteSize.{one_of, element_bytes, elements, has_negative, byte_size_of}

-- The greatest dimension, so many times.
abbrev greatest : ℕ → List ℤ
greatest n = replicate n (pos 2147483647)

-- No dimensions are one element: the four bytes of a float32.
pub scalar : byte_size_of [] (pos 0) ≡ done_with 4
unfolding byte_size_of elements prod has_negative element_bytes one_of natural
scalar = refl

-- A byte more than the limit is refused, with no need,
pub limit_passed : (byte_size_of (pos 4096 ∷ pos 4096 ∷ []) (pos 9) ∷ byte_size_of (pos 16777217 ∷ []) (pos 9) ∷ [])
    ≡ (done_with 16777216 ∷ refused_need need_exceeds_space 0 ∷ [])
unfolding byte_size_of elements prod has_negative element_bytes one_of natural
limit_passed = refl

-- unless a dimension is 0, be it the first or the last of eight;
pub zero_among_greatest : (byte_size_of (pos 0 ∷ greatest 7) (pos 11) ∷ byte_size_of (greatest 7 ++ (pos 0 ∷ [])) (pos 11) ∷ []) ≡ (done_with 0 ∷ done_with 0 ∷ [])
unfolding byte_size_of elements prod has_negative element_bytes one_of natural
zero_among_greatest = refl

-- a dimension below 0 is refused beside a 0 too, a code before it, and nine dimensions before all.
pub refusals : (byte_size_of (pos 0 ∷ negsuc 0 ∷ []) (pos 0) ∷ byte_size_of (negsuc 0 ∷ []) (pos 5) ∷ byte_size_of (greatest 9) (negsuc 0) ∷ [])
    ≡ (refused_at bad_row 0 ∷ refused bad_type_code ∷ refused too_many ∷ [])
unfolding byte_size_of elements prod has_negative element_bytes one_of natural
refusals = refl
