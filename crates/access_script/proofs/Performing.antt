-- The lowest bad touch as a caller learns of it, and performing the touches, one after the other.
use Prim.Native.Nat.{ℕ, ◌+◌, ◌<◌, ◌≤◌}
use Rattle.std.proofs.Common.{sym, ◌∙◌, ap, ap₂, subst, arith}
use Rattle.std.specs.Prelude.{true, false, List, Some, None, ◌≡◌, ℤ, length, set}
use Rattle.std.proofs.lemmas.Iterator.Adapters.{option_map_id}
use Rattle.bounded.specs.First.{found_of}
use Rattle.bounded.proofs.Found.{found_some, found_none}
use Rattle.bounded.specs.Replaced.{replaced}
use Rattle.bounded.proofs.Replaced.{replaced_none, replaced_more, replaced_length}
use Rattle.inspection_rule.specs.Inspect.{proposed}
use Rattle.access_rule.specs.Accesses.{count, access, allowed, reads, written}
use Rattle.access_rule.specs.Ready.{Ready}
use Rattle.access_rule.specs.Run.{byte_of, arena_by, byte_by, arena_after, answer_byte}
use Rattle.access_rule.proofs.RunLaws.{arena_none, arena_more, arena_length}
use Rattle.access_rule.specs.declared.Access.{Access}

-- What a search that found an index says, and one that found none.
pub touch_found : (r n : ℕ) {y : ℕ} → found_of r n ≡ Some y → (r < n) × (r ≡ y)
touch_found r n e = found_some (λ k. k) r n _ (option_map_id (found_of r n) ∙ e)

pub no_touch : (r n : ℕ) → found_of r n ≡ None → n ≤ r
no_touch r n e = found_none (λ k. k) r n (option_map_id (found_of r n) ∙ e)

-- The place that the code works out is the touch's byte.
pub byte_is : (o : List ℤ) (a : Access) {p : ℕ} → p ≡ proposed o a.row.0 → p + a.index ≡ byte_of o a
unfolding byte_of
byte_is o a e = ap (λ (n : ℕ). n + a.index) e

-- A touch with no value reads,
pub none_reads : (a : Access) → a.write ≡ None → reads a ≡ true
none_reads a e = rw (e, reads)

-- and one with a value writes it.
pub some_writes : (a : Access) {v : ℕ} → a.write ≡ Some v → (reads a ≡ false) × (v ≡ written a)
some_writes a e = (rw (e, reads), rw (e, written))

-- A touch of a script that is ready falls within the arena, and its value is allowed.
pub ready_touch : {o s : List ℤ} {held room : ℕ} → Ready o s held room → {j : ℕ} {a : Access} → a ≡ access s j → j < count s → (byte_of o a < held) × (allowed a ≡ true)
ready_touch {o} {s} {held} r {j} e l =
    (subst (λ (x : Access). byte_of o x < held) (sym e) (r.within j l), subst (λ (x : Access). allowed x ≡ true) (sym e) (r.value j l))

-- The touches below k are performed.
pub record Performed (o s : List ℤ) (arena₀ bytes₀ arena bytes : List ℕ) (k : ℕ) : Type 0 where
  pub index : k ≤ count s
  pub arena_is : arena ≡ arena_after o s arena₀ k
  pub bytes_are : bytes ≡ replaced (answer_byte o s arena₀) k bytes₀

pub performed_start : (o s : List ℤ) (arena bytes : List ℕ) → Performed o s arena bytes arena bytes 0
performed_start o s arena bytes = record { index = omega arith; arena_is = sym (arena_none o s arena); bytes_are = sym (replaced_none _ bytes) }

module _ {o s : List ℤ} {arena₀ bytes₀ arena bytes : List ℕ} {k : ℕ} (w : Performed o s arena₀ bytes₀ arena bytes k) where
  -- Neither table changes its length.
  pub arena_long : length arena ≡ length arena₀
  arena_long = ap length w.arena_is ∙ arena_length o s arena₀ k

  pub bytes_long : length bytes ≡ length bytes₀
  bytes_long = ap length w.bytes_are ∙ replaced_length _ k bytes₀

  -- One touch more.
  pub performed_more : {a : Access} {arena' : List ℕ} {b : ℕ} → k < count s → a ≡ access s k → arena' ≡ arena_by o a arena → b ≡ byte_by o a arena
      → Performed o s arena₀ bytes₀ arena' (set bytes k b) (k + 1)
  unfolding answer_byte
  performed_more {a} {arena'} {b} l e p q =
      let found : b ≡ answer_byte o s arena₀ k = q ∙ ap₂ (λ (x : Access) (xs : List ℕ). byte_by o x xs) e w.arena_is in
      record {
        index = omega arith;
        arena_is = p ∙ ap₂ (λ (x : Access) (xs : List ℕ). arena_by o x xs) e w.arena_is ∙ arena_more o s arena₀ k;
        bytes_are = ap₂ (λ (xs : List ℕ) (x : ℕ). set xs k x) w.bytes_are found ∙ replaced_more (answer_byte o s arena₀) k bytes₀;
      }

  -- All are.
  pub performed_done : count s ≤ k → (arena ≡ arena_after o s arena₀ (count s)) × (bytes ≡ replaced (answer_byte o s arena₀) (count s) bytes₀)
  performed_done l =
      let e : k ≡ count s = omega (arith, w.index) in
      (w.arena_is ∙ ap (arena_after o s arena₀) e, w.bytes_are ∙ ap (λ (n : ℕ). replaced (answer_byte o s arena₀) n bytes₀) e)
