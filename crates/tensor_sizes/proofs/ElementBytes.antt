-- Laws of the definitions of specs/Elements.antt.
use Rattle.std.specs.Prelude.{ℕ, zero, suc, ◌<◌, ◌≤◌, ◌⊎◌, ◌≡◌, refl}
use Rattle.std.proofs.Common.{inl, inr, arith, ne_eqb}
use Rattle.tensor_sizes.specs.ByteSize.{one_of, element_bytes}
use Rattle.tensor_sizes.specs.Elements.{Element, bool, complex128, complex64, float16, float32, float64, int16, int32, int64, int8, uint64, uint8}

-- The definition gives these,
pub element_bytes_lem : {code bytes : ℕ} → Element code bytes → element_bytes code ≡ bytes
unfolding one_of element_bytes
element_bytes_lem float32 = refl
element_bytes_lem float16 = refl
element_bytes_lem int32 = refl
element_bytes_lem uint8 = refl
element_bytes_lem int64 = refl
element_bytes_lem bool = refl
element_bytes_lem int16 = refl
element_bytes_lem complex64 = refl
element_bytes_lem int8 = refl
element_bytes_lem float64 = refl
element_bytes_lem complex128 = refl
element_bytes_lem uint64 = refl

none_past : (code : ℕ) → 12 < code → element_bytes code ≡ 0
unfolding one_of element_bytes
none_past code l =
    rw (
      ne_eqb code 0 (omega arith),
      ne_eqb code 2 (omega arith),
      ne_eqb code 1 (omega arith),
      ne_eqb code 7 (omega arith),
      ne_eqb code 3 (omega arith),
      ne_eqb code 6 (omega arith),
      ne_eqb code 9 (omega arith),
      ne_eqb code 4 (omega arith),
      ne_eqb code 8 (omega arith),
      ne_eqb code 10 (omega arith),
      ne_eqb code 12 (omega arith),
      ne_eqb code 11 (omega arith),
    )

-- and to any other code none.
pub element_or_none : (code : ℕ) → Element code (element_bytes code) ⊎ (element_bytes code ≡ 0)
unfolding one_of element_bytes
element_or_none zero = inl float32
element_or_none (suc zero) = inl float16
element_or_none (suc (suc zero)) = inl int32
element_or_none (suc (suc (suc zero))) = inl uint8
element_or_none (suc (suc (suc (suc zero)))) = inl int64
element_or_none (suc (suc (suc (suc (suc zero))))) = inr refl
element_or_none (suc (suc (suc (suc (suc (suc zero)))))) = inl bool
element_or_none (suc (suc (suc (suc (suc (suc (suc zero))))))) = inl int16
element_or_none (suc (suc (suc (suc (suc (suc (suc (suc zero)))))))) = inl complex64
element_or_none (suc (suc (suc (suc (suc (suc (suc (suc (suc zero))))))))) = inl int8
element_or_none (suc (suc (suc (suc (suc (suc (suc (suc (suc (suc zero)))))))))) = inl float64
element_or_none (suc (suc (suc (suc (suc (suc (suc (suc (suc (suc (suc zero))))))))))) = inl complex128
element_or_none (suc (suc (suc (suc (suc (suc (suc (suc (suc (suc (suc (suc zero)))))))))))) = inl uint64
element_or_none (suc (suc (suc (suc (suc (suc (suc (suc (suc (suc (suc (suc (suc n))))))))))))) = inr (none_past (suc (suc (suc (suc (suc (suc (suc (suc (suc (suc (suc (suc (suc n))))))))))))) (omega arith))

-- An element has from 1 to 16 bytes.
pub some_bytes : {code bytes : ℕ} → Element code bytes → (0 < bytes) × (bytes ≤ 16)
some_bytes float32 = (omega arith, omega arith)
some_bytes float16 = (omega arith, omega arith)
some_bytes int32 = (omega arith, omega arith)
some_bytes uint8 = (omega arith, omega arith)
some_bytes int64 = (omega arith, omega arith)
some_bytes bool = (omega arith, omega arith)
some_bytes int16 = (omega arith, omega arith)
some_bytes complex64 = (omega arith, omega arith)
some_bytes int8 = (omega arith, omega arith)
some_bytes float64 = (omega arith, omega arith)
some_bytes complex128 = (omega arith, omega arith)
some_bytes uint64 = (omega arith, omega arith)

-- No code of an element is above 12.
pub small_code : {code bytes : ℕ} → Element code bytes → code ≤ 12
small_code float32 = omega arith
small_code float16 = omega arith
small_code int32 = omega arith
small_code uint8 = omega arith
small_code int64 = omega arith
small_code bool = omega arith
small_code int16 = omega arith
small_code complex64 = omega arith
small_code int8 = omega arith
small_code float64 = omega arith
small_code complex128 = omega arith
small_code uint64 = omega arith
