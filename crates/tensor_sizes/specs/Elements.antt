-- Law: the bytes of an element by the TensorFlow Lite schema's type codes, one by one under their names there. A string, code 5, has no size that its type
-- tells, and is refused.
use Rattle.std.specs.Prelude.{ℕ}

-- An element of the type with that code has so many bytes.
pub data Element : ℕ → ℕ → Type 0 where
  float32 : Element 0 4
  float16 : Element 1 2
  int32 : Element 2 4
  uint8 : Element 3 1
  int64 : Element 4 8
  bool : Element 6 1
  int16 : Element 7 2
  complex64 : Element 8 8
  int8 : Element 9 1
  float64 : Element 10 8
  complex128 : Element 11 16
  uint64 : Element 12 8
