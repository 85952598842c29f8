-- Document 01, "Words of the offline plan": "Signed 32-bit words (document 004), little-endian (house rule): version, number of subgraphs, n, then n
-- offsets." The bytes are read and written by `word_bytes`' own words; `room` is the length of the lent table. Offsets are signed words, any of them.
use Rattle.std.specs.Prelude.{ℕ, ◌+◌, ◌*◌, Bool, true, false, not, List, [], ◌∷◌, ◌++◌, ltb, eqb, ℤ, pos, negsuc, length, drop}
use Rattle.answer.specs.declared.Answer.{Answer}
use Rattle.answer.specs.Answer as A
use Rattle.bounded.specs.Causes.{Cause, ◌⇒◌, first_cause}
use Rattle.request_table.specs.Limits.{greatest_rows}
use Rattle.word_bytes.specs.Bytes.{word_of}
use Rattle.word_lists.specs.WordLists.{words_from, with_words}

-- A plan of n offsets has 12 + 4n bytes.
abbrev pub plan_bytes : ℕ → ℕ
plan_bytes n = 12 + n * 4

-- ---- reading

-- Where the third word stands, n.
abbrev pub count_place : ℕ
count_place = 8

-- Where the offsets start.
abbrev pub offsets_place : ℕ
offsets_place = 12

-- Whether a signed word is that natural number. "the count is unsigned": a negative word never is.
unfoldable pub is_number : ℤ → ℕ → Bool
is_number (pos m) n = eqb m n
is_number (negsuc m) n = false

-- "Reading: 18 if under 12 bytes; 19 if n isn't the tensor count asked for (unsigned); 18 if the length isn't 12 + 4n; 2 if over 256; 3." Document
-- 02, order 5: "Number 2 moves with them, also in the offline plan."
abbrev pub read_causes : List ℕ → ℕ → ℕ → List (Cause Answer)
read_causes bytes tensors room =
    (ltb (length bytes) (plan_bytes 0) ⇒ A.refused A.wrong_length)
    ∷ (not (is_number (word_of bytes count_place) tensors) ⇒ A.refused A.other_tensor_count)
    ∷ (not (eqb (length bytes) (plan_bytes tensors)) ⇒ A.refused A.wrong_length)
    ∷ (ltb greatest_rows tensors ⇒ A.refused A.too_many)
    ∷ (ltb room tensors ⇒ A.refused A.table_too_short)
    ∷ []

-- The answer: the first cause that holds, else done, with all zeros.
unfoldable pub read_of : List ℕ → ℕ → ℕ → Answer
read_of bytes tensors room = first_cause (read_causes bytes tensors room) (A.done_with 0)

-- The offsets in the end: where the answer is done, "any offset word is handed on as it stands", one for each tensor, and the rest stays; on every
-- refusal all stays.
unfoldable pub offsets_read : List ℕ → ℕ → List ℤ → List ℤ
offsets_read bytes tensors offsets =
    elim (eqb (read_of bytes tensors (length offsets)).number A.done) [
      | true ↦ words_from bytes offsets_place tensors ++ drop tensors offsets
      | false ↦ offsets
    ]

-- ---- writing

-- The words before n offsets; the first two "are .. written as 1 and 1".
abbrev pub plan_head : ℕ → List ℤ
plan_head n = pos 1 ∷ pos 1 ∷ pos n ∷ []

-- The plan's words.
abbrev pub plan_words : List ℤ → List ℤ
plan_words offsets = plan_head (length offsets) ++ offsets

-- "Writing: 2, then 3 if the lent bytes are too few".
abbrev pub write_causes : List ℤ → ℕ → List (Cause Answer)
write_causes offsets room =
    (ltb greatest_rows (length offsets) ⇒ A.refused A.too_many)
    ∷ (ltb room (plan_bytes (length offsets)) ⇒ A.refused A.table_too_short)
    ∷ []

-- The answer: the first cause that holds, else done, with all zeros.
unfoldable pub write_of : List ℤ → ℕ → Answer
write_of offsets room = first_cause (write_causes offsets room) (A.done_with 0)

-- The bytes in the end: where the answer is done, the plan's words in front and the rest as it was; on every refusal all stays.
unfoldable pub bytes_written : List ℤ → List ℕ → List ℕ
bytes_written offsets bytes =
    elim (eqb (write_of offsets (length bytes)).number A.done) [ true ↦ with_words bytes 0 (plan_words offsets) | false ↦ bytes ]
