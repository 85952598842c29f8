-- What the tests of naming, of outputs and of reading say, over signed words and both ways: which use names a tensor by which operator, which makes it a
-- model output, and which lets another use read.
use Rattle.std.specs.Prelude.{ℕ, ◌<◌, List, ◌≡◌, ℤ, ◌<ℤ◌}
use Rattle.std.proofs.Math.IntN.{pos}
use Rattle.lifetime_rule.specs.Uses.{reads, writes, model_input, model_output, count, word}

-- Use k names tensor t by operator m: it reads or writes it there, or the tensor is a model input, which "counts as naming by operator 0".
pub data Names (u : List ℤ) (t m k : ℕ) : Type 0 where
  by_reading : word u k 2 ≡ pos reads → word u k 1 ≡ pos t → word u k 0 ≡ pos m → Names u t m k
  by_writing : word u k 2 ≡ pos writes → word u k 1 ≡ pos t → word u k 0 ≡ pos m → Names u t m k
  as_input : word u k 2 ≡ pos model_input → word u k 1 ≡ pos t → m ≡ 0 → Names u t m k

-- Use k makes tensor t a model output.
pub record GivesOut (u : List ℤ) (t k : ℕ) : Type 0 where
  pub role : word u k 2 ≡ pos model_output
  pub tensor : word u k 1 ≡ pos t

-- Use j lets use k read: both are of one tensor, and it is a model input or use j writes it by an earlier operator.
pub data Lets (u : List ℤ) (k j : ℕ) : Type 0 where
  of_input : word u j 2 ≡ pos model_input → word u j 1 ≡ word u k 1 → Lets u k j
  after_writing : word u j 2 ≡ pos writes → word u j 1 ≡ word u k 1 → word u j 0 <ℤ word u k 0 → Lets u k j

-- Some use of the list does.
pub record Some (u : List ℤ) (So : ℕ → Type 0) : Type 0 where
  pub which : ℕ
  pub within : which < count u
  pub so : So which

-- The list names tensor t by operator m.
abbrev pub Named : List ℤ → ℕ → ℕ → Type 0
Named u t m = Some u (Names u t m)

-- Tensor t is a model output: some use has it in role 3.
abbrev pub Output : List ℤ → ℕ → Type 0
Output u t = Some u (GivesOut u t)

-- Use k reads its tensor, and no use lets it.
pub record TooEarly (u : List ℤ) (k : ℕ) : Type 0 where
  pub is_read : word u k 2 ≡ pos reads
  pub not_let : Some u (Lets u k) → ⊥
