-- Law: what a done answer leaves in the lent table, entry by entry. Reading: "any offset word is handed on as it stands". Writing: the first two words
-- "are .. written as 1 and 1", the third is n, then come the offsets; "exactly 12 + 4n bytes change".
use Rattle.std.specs.Prelude.{ℕ, ◌+◌, ◌*◌, ◌<◌, ◌≤◌, List, ◌≡◌, ℤ, pos, length, get_or}
use Rattle.word_bytes.specs.Bytes.{word_of}

-- The table of offsets after reading.
pub record LeftByReading (bytes : List ℕ) (tensors : ℕ) (before after : List ℤ) : Type 0 where
  pub as_long : length after ≡ length before
  pub each : (i : ℕ) → i < tensors → get_or after i (pos 0) ≡ word_of bytes (12 + i * 4)
  pub rest : (i : ℕ) → tensors ≤ i → get_or after i (pos 0) ≡ get_or before i (pos 0)

-- The bytes after writing.
pub record LeftByWriting (offsets : List ℤ) (before after : List ℕ) : Type 0 where
  pub as_long : length after ≡ length before
  pub version : word_of after 0 ≡ pos 1
  pub subgraphs : word_of after 4 ≡ pos 1
  pub count : word_of after 8 ≡ pos (length offsets)
  pub each : (i : ℕ) → i < length offsets → word_of after (12 + i * 4) ≡ get_or offsets i (pos 0)
  pub rest : (i : ℕ) → 12 + length offsets * 4 ≤ i → get_or after i 0 ≡ get_or before i 0
