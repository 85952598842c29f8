-- Law: a model's outputs can be read after the last operator. Document 02, order 2: "A tensor with role 3 now lives through operator T − 1. [..] Demand 3
-- then covers a read of an output at the last moment."
--
-- The moments of a request table are the lives of a done operator list, and the inspector accepts a plan for it. Then each model output is alive at moment
-- T − 1, past which no row lives; a script of which each touch is good or reads a byte of an output at that moment is done; and such a read gives the last
-- byte written there through that output, whatever the others wrote between. It is demand 3 at such a table, over its own definitions: what is added is
-- that those reads are good touches.
use Rattle.std.specs.Prelude.{ℕ, ◌+◌, ◌*◌, ◌-◌, ◌<◌, ◌≤◌, List, ◌⊎◌, ◌≡◌, ℤ, pos, length, get_or, ◌≤ℤ◌, ◌<ℤ◌}
use Rattle.answer.specs.Answer.{done_with}
use Rattle.words.specs.Words.{word_at}
use Rattle.request_table.specs.Table.{rows, word}
use Rattle.lifetime_rule.specs.FromUses.{lifetimes_of, final_lifetimes}
use Rattle.lifetime_rule.specs.Naming.{Output}
use Rattle.access_rule.specs.Accesses.{count}
use Rattle.access_rule.specs.Demand3.{Reads, Writes, SameByte, ScriptDone}
use Rattle.access_rule.specs.GoodScripts.{GoodAccess}
use Rattle.access_rule.specs.Script.{final_bytes}

-- The moments of the request table are the lives of a done operator list: row r is tensor r's. Rows past the tensors, as scratch buffers, end with the last
-- operator or before.
pub record FromLifetimes (operators tensors : ℕ) (u lifetimes t : List ℤ) : Type 0 where
  pub done : lifetimes_of operators tensors u (length lifetimes) ≡ done_with 0
  pub row_each : tensors ≤ rows t
  pub first_moments : (r : ℕ) → r < tensors → word t r 1 ≡ word_at (final_lifetimes operators tensors u lifetimes) (r * 2)
  pub last_moments : (r : ℕ) → r < tensors → word t r 2 ≡ word_at (final_lifetimes operators tensors u lifetimes) (r * 2 + 1)
  pub others : (r : ℕ) → tensors ≤ r → r < rows t → word t r 2 ≤ℤ pos (operators - 1)

-- Touch k reads a byte of a model output at the last moment.
pub record ReadsOutput (operators : ℕ) (u t s : List ℤ) (k : ℕ) : Type 0 where
  pub tensor : ℕ
  pub output : Output u tensor
  pub moment : word s k 0 ≡ pos (operators - 1)
  pub row : word s k 1 ≡ pos tensor
  pub index_from : pos 0 ≤ℤ word s k 2
  pub index_below : word s k 2 <ℤ word t tensor 0
  pub reads : Reads s k

-- Each touch of the script is good, or reads a byte of a model output at the last moment.
abbrev pub GoodOrReads : ℕ → List ℤ → List ℤ → List ℤ → Type 0
GoodOrReads operators u t s = (k : ℕ) → k < count s → GoodAccess t s k ⊎ ReadsOutput operators u t s k

-- The row is alive at the last moment, and it is its last.
pub record LastAlive (operators : ℕ) (t : List ℤ) (r : ℕ) : Type 0 where
  pub is_row : r < rows t
  pub begun : word t r 1 ≤ℤ pos (operators - 1)
  pub lasting : word t r 2 ≡ pos (operators - 1)

-- ---- the script

-- What the script answers and leaves.
pub record OutputsRead (g operators : ℕ) (u t : List ℤ) (space : ℕ) (o s : List ℤ) (arena bytes : List ℕ) : Type 0 where
  -- it is done
  pub done : ScriptDone g t space o s arena bytes
  -- and a read of an output at the last moment gives the last byte written there through that same output
  pub last_written : (j k v : ℕ) → j < k → k < count s → ReadsOutput operators u t s k → Writes s j v → SameByte s j k
      → ((i w : ℕ) → j < i → i < k → Writes s i w → SameByte s i k → ⊥) → get_or (final_bytes g t space o s arena bytes) k 0 ≡ v
