-- Law: what a done operator list leaves. Each tensor's life has 0 ≤ first ≤ last < T and holds every operator that names the tensor; its first operator
-- names the tensor, and its last one does too or is T − 1, for a model output; no read stands without role 2 or a write by an earlier operator. So a life
-- is neither too short nor too long, and its ends are good moments for a row of the request table.
use Rattle.std.specs.Prelude.{ℕ, ◌+◌, ◌*◌, ◌<◌, ◌≤◌, List, ◌≡◌, ℤ, pos, length}
use Rattle.words.specs.Words.{word_at}
use Rattle.lifetime_rule.specs.FromUses.{final_lifetimes}
use Rattle.lifetime_rule.specs.Naming.{Names, Lets, Some, Named, Output}
use Rattle.lifetime_rule.specs.Uses.{reads, count, word}

-- Why a life ends where it does: "A tensor with role 3 now lives through operator T − 1", and the life of any other ends with an operator that names it.
pub data Ends (operators : ℕ) (u : List ℤ) (t last : ℕ) : Type 0 where
  as_output : Output u t → last + 1 ≡ operators → Ends operators u t last
  by_naming : (Output u t → ⊥) → Named u t last → Ends operators u t last

-- A tensor lives from first to last: "from the lowest to the highest operator that names the tensor", or through T − 1.
pub record Lifetime (operators : ℕ) (u : List ℤ) (t first last : ℕ) : Type 0 where
  pub rising : first ≤ last
  pub below : last < operators
  pub holds : (m k : ℕ) → k < count u → Names u t m k → (first ≤ m) × (m ≤ last)
  pub first_named : Named u t first
  pub ends : Ends operators u t last

-- The lifetimes in the end, the first and last of each tensor, and the reads.
pub record Left (operators tensors : ℕ) (u lifetimes : List ℤ) : Type 0 where
  pub first : ℕ → ℕ
  pub last : ℕ → ℕ
  -- entries 2t and 2t + 1 are tensor t's life, and the rest stays
  pub first_entry : (t : ℕ) → t < tensors → word_at (final_lifetimes operators tensors u lifetimes) (t * 2) ≡ pos (first t)
  pub last_entry : (t : ℕ) → t < tensors → word_at (final_lifetimes operators tensors u lifetimes) (t * 2 + 1) ≡ pos (last t)
  pub lifetime : (t : ℕ) → t < tensors → Lifetime operators u t (first t) (last t)
  pub rest : (i : ℕ) → tensors * 2 ≤ i → word_at (final_lifetimes operators tensors u lifetimes) i ≡ word_at lifetimes i
  pub long : length (final_lifetimes operators tensors u lifetimes) ≡ length lifetimes
  -- "A read needs role 2 or a write by an earlier operator."
  pub let_read : (k : ℕ) → k < count u → word u k 2 ≡ pos reads → Some u (Lets u k)
