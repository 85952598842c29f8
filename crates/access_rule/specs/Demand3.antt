-- Demand 3: "Take any plan that the inspector accepts, whoever proposed it, an arena at least as long as its space, whatever bytes stand in it, and room
-- for the answers. Then run any script of touches, up to the listed number, with that plan over that arena. It is done exactly when moments never go
-- back and each touch reads or writes one byte within the size of a tensor alive at that moment. Otherwise it is refused whole and not a byte changes.
-- In every script that is done, no touch leaves the arena. A byte read is the last byte written there through that same tensor in that run, whatever
-- the others wrote between. A byte not yet written through that tensor in the run carries no such promise."
--
-- One law over whole scripts, by positions in the script. It stands on the inspector's exact rule (`ExactRule`) and on nothing else.
use Rattle.std.specs.Prelude.{ℕ, ◌+◌, ◌%◌, ◌<◌, ◌≤◌, List, ◌↔◌, ◌≡◌, ℤ, pos, negsuc, length, get_or}
use Rattle.answer.specs.Answer.{done_with, refused_at, bad_access as bad_access_number}
use Rattle.bounded.specs.Lowest.{Lowest}
use Rattle.words.specs.Words.{natural}
use Rattle.request_table.specs.Buffers.{buffer_at, end}
use Rattle.request_table.specs.Table.{word}
use Rattle.inspection_rule.specs.Inspect.{proposed, proposed_need, inspect_of}
use Rattle.access_rule.specs.Accesses.{greatest_accesses, count}
use Rattle.access_rule.specs.GoodScripts.{GoodAccess, GoodScript}
use Rattle.access_rule.specs.Script.{script_of, final_arena, final_bytes}

-- What demand 3 takes: an accepted plan, an arena at least as long as its space, a script of whole rows with no more touches than are allowed, room for
-- the answers.
pub record Lent (g : ℕ) (t : List ℤ) (space : ℕ) (o s : List ℤ) (arena bytes : List ℕ) : Type 0 where
  pub accepted : (inspect_of g t space o).number ≡ 0
  pub long_enough : space ≤ length arena
  pub whole : length s % 4 ≡ 0
  pub few : count s ≤ greatest_accesses
  pub room : count s ≤ length bytes

-- Touch k reads.
abbrev pub Reads : List ℤ → ℕ → Type 0
Reads s k = word s k 3 ≡ negsuc 0

-- Touch k writes v.
abbrev pub Writes : List ℤ → ℕ → ℕ → Type 0
Writes s k v = word s k 3 ≡ pos v

-- "A touch falls on the arena byte numbered by its row's proposed offset plus its index".
abbrev pub falls_on : List ℤ → List ℤ → ℕ → ℕ
falls_on o s k = proposed o (natural (word s k 1)) + natural (word s k 2)

-- Two touches of the same row and index.
pub record SameByte (s : List ℤ) (j k : ℕ) : Type 0 where
  pub row : word s j 1 ≡ word s k 1
  pub index : word s j 2 ≡ word s k 2

-- The script is done.
abbrev pub ScriptDone : ℕ → List ℤ → ℕ → List ℤ → List ℤ → List ℕ → List ℕ → Type 0
ScriptDone g t space o s arena bytes = script_of g t space o s (length arena) (length bytes) ≡ done_with 0

-- The answer is 11 with the lowest touch that is not good, and arena and byte answers are as lent.
pub record RefusedWhole (g : ℕ) (t : List ℤ) (space : ℕ) (o s : List ℤ) (arena bytes : List ℕ) : Type 0 where
  pub touch : ℕ
  pub lowest : Lowest (λ k. GoodAccess t s k → ⊥) (count s) touch
  pub answer : script_of g t space o s (length arena) (length bytes) ≡ refused_at bad_access_number touch
  pub arena_kept : final_arena g t space o s arena bytes ≡ arena
  pub bytes_kept : final_bytes g t space o s arena bytes ≡ bytes

-- The law.
pub record Demand3 (g : ℕ) (t : List ℤ) (space : ℕ) (o s : List ℤ) (arena bytes : List ℕ) : Type 0 where
  -- (a) It is done exactly when moments never go back and each touch is a byte of a row alive then; otherwise it is refused whole.
  pub done_exactly : ScriptDone g t space o s arena bytes ↔ GoodScript t s
  pub refused_whole : (GoodScript t s → ⊥) → RefusedWhole g t space o s arena bytes
  -- (b) In a script that is done, each touch falls below its row's end, so below the need, so below the space.
  pub inside_arena : ScriptDone g t space o s arena bytes → (k r : ℕ) → k < count s → word s k 1 ≡ pos r
      → (falls_on o s k < end (buffer_at g t r (proposed o r))) × (end (buffer_at g t r (proposed o r)) ≤ proposed_need g t o) × (proposed_need g t o ≤ space)
  -- (c) A byte read is the last byte written there through the same row and index, whatever the others wrote between.
  pub own_byte : ScriptDone g t space o s arena bytes → (j k v : ℕ) → j < k → k < count s → Reads s k → Writes s j v → SameByte s j k
      → ((i w : ℕ) → j < i → i < k → Writes s i w → SameByte s i k → ⊥) → get_or (final_bytes g t space o s arena bytes) k 0 ≡ v
  -- (d) It is the value of the last earlier write, through any row, that falls on the same byte, or the byte lent where there is none.
  pub last_write : ScriptDone g t space o s arena bytes → (j k v : ℕ) → j < k → k < count s → Reads s k → Writes s j v → falls_on o s j ≡ falls_on o s k
      → ((i w : ℕ) → j < i → i < k → Writes s i w → falls_on o s i ≡ falls_on o s k → ⊥) → get_or (final_bytes g t space o s arena bytes) k 0 ≡ v
  pub byte_lent : ScriptDone g t space o s arena bytes → (k : ℕ) → k < count s → Reads s k
      → ((i w : ℕ) → i < k → Writes s i w → falls_on o s i ≡ falls_on o s k → ⊥) → get_or (final_bytes g t space o s arena bytes) k 0 ≡ get_or arena (falls_on o s k) 0
