-- The operator list: the raw list of its signed words, three a use: operator, tensor, role (document 01, "The desk's order of checks", Lives).
-- All is a total function of the list and the use's number. A negative word reads as a number above every limit (`words`), so a test of an upper limit
-- also refuses it; `GoodUses` says the rule again in signed numbers and proves that it is the same.
use Rattle.std.specs.Prelude.{ℕ, Bool, not, ◌&&◌, ◌||◌, List, leb, ltb, eqb, ℤ}
use Rattle.words.specs.Rows.{rows_of, has_whole_rows, word_of}
use Rattle.words.specs.Words.{natural}
use Rattle.lifetime_rule.specs.declared.Use.{Use}

-- "operators T from 1 to 1,024".
abbrev pub greatest_operators : ℕ
greatest_operators = 1024

-- "n ≤ 256 tensors", which document 02, order 5, raises to 1,024.
abbrev pub greatest_tensors : ℕ
greatest_tensors = 1024

-- "at most 4,096 use rows", which it raises to 16,384.
abbrev pub greatest_uses : ℕ
greatest_uses = 16384

-- "role: 0 reads,
abbrev pub reads : ℕ
reads = 0

-- 1 writes,
abbrev pub writes : ℕ
writes = 1

-- 2 model input,
abbrev pub model_input : ℕ
model_input = 2

-- 3 model output".
abbrev pub model_output : ℕ
model_output = 3

-- How many whole uses the list has.
abbrev pub count : List ℤ → ℕ
count u = rows_of 3 u

-- Whether it has nothing but whole uses.
abbrev pub whole_uses : List ℤ → Bool
whole_uses u = has_whole_rows 3 u

-- The word in a column of a use.
abbrev pub word : List ℤ → ℕ → ℕ → ℤ
word u k column = word_of 3 u k column

-- A use, as the code has it.
unfoldable pub use_at : List ℤ → ℕ → Use
use_at u k =
    record {
      operator = record { 0 = natural (word u k 0) };
      tensor = record { 0 = natural (word u k 1) };
      role = natural (word u k 2);
    }

-- "roles 2 and 3 have operator 0".
abbrev pub good_operator : ℕ → Use → Bool
good_operator operators x = ltb x.operator.0 operators && (leb x.role writes || eqb x.operator.0 0)

-- "A row with another role, a tensor not from 0 to n − 1 or an operator not from 0 to T − 1 (or not 0 where it must be) is bad." A good use is any other.
unfoldable pub good : ℕ → ℕ → Use → Bool
good operators tensors x = leb x.role model_output && (ltb x.tensor.0 tensors && good_operator operators x)

-- A bad use.
abbrev pub bad_use : ℕ → ℕ → List ℤ → ℕ → Bool
bad_use operators tensors u k = not (good operators tensors (use_at u k))
