-- Law: what a script that is done leaves: "Each answer byte is the byte read or written; the arena ends as the writes leave it, and bytes not written
-- stay." That a refusal leaves all as lent is `refusal_keeps` (`Answers`) and, for bad touches, part of demand 3.
use Rattle.std.specs.Prelude.{ℕ, ◌<◌, ◌≤◌, List, ◌≡◌, ℤ, length, get_or}
use Rattle.access_rule.specs.Accesses.{count}
use Rattle.access_rule.specs.Demand3.{Writes, falls_on}
use Rattle.access_rule.specs.Script.{final_arena, final_bytes}

pub record Left (g : ℕ) (t : List ℤ) (space : ℕ) (o s : List ℤ) (arena bytes : List ℕ) : Type 0 where
  -- both tables are as long as they were
  pub arena_long : length (final_arena g t space o s arena bytes) ≡ length arena
  pub bytes_long : length (final_bytes g t space o s arena bytes) ≡ length bytes
  -- a write's answer byte is its value, and entries past the touches stay
  pub echoed : (k v : ℕ) → k < count s → Writes s k v → get_or (final_bytes g t space o s arena bytes) k 0 ≡ v
  pub rest : (k : ℕ) → count s ≤ k → get_or (final_bytes g t space o s arena bytes) k 0 ≡ get_or bytes k 0
  -- a byte of the arena is the value of the last write that falls on it; one on which none falls is as lent
  pub written : (j v : ℕ) → j < count s → Writes s j v → ((i w : ℕ) → j < i → i < count s → Writes s i w → falls_on o s i ≡ falls_on o s j → ⊥)
      → get_or (final_arena g t space o s arena bytes) (falls_on o s j) 0 ≡ v
  pub unwritten : (x : ℕ) → ((i w : ℕ) → i < count s → Writes s i w → falls_on o s i ≡ x → ⊥) → get_or (final_arena g t space o s arena bytes) x 0 ≡ get_or arena x 0
