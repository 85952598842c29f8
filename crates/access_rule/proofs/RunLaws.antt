-- Laws of the run: it starts from the arena as lent, each touch adds its own, and no touch changes the arena's length.
use Prim.Native.Nat.{ℕ, zero, suc, ◌+◌}
use Rattle.std.specs.Prelude.{Bool, List, ◌≡◌, ℤ, get_or}
use Rattle.std.proofs.Math.Bool.{true, false}
use Rattle.std.proofs.Math.Path.{refl}
use Rattle.std.proofs.Common.{◌∙◌, add-one}
use Rattle.std.proofs.Math.ListN.{length, set, length-set}
use Rattle.access_rule.specs.Accesses.{access, reads, written}
use Rattle.access_rule.specs.Run.{byte_of, arena_by, byte_by, arena_after}
use Rattle.access_rule.specs.declared.Access.{Access}

module _ (o : List ℤ) (a : Access) (arena : List ℕ) where
  -- A touch that reads leaves the arena and answers its byte;
  pub read_leaves : reads a ≡ true → arena ≡ arena_by o a arena
  unfolding arena_by
  read_leaves e = rw (e, arena_by)

  pub read_answers : reads a ≡ true → get_or arena (byte_of o a) 0 ≡ byte_by o a arena
  unfolding byte_by byte_of
  read_answers e = rw (e, byte_by)

  -- one that writes sets its byte to its value and answers the value.
  pub write_sets : reads a ≡ false → set arena (byte_of o a) (written a) ≡ arena_by o a arena
  unfolding arena_by byte_of
  write_sets e = rw (e, arena_by)

  pub write_answers : reads a ≡ false → written a ≡ byte_by o a arena
  unfolding byte_by
  write_answers e = rw (e, byte_by)

  -- Neither changes its length.
  pub touch_length : length (arena_by o a arena) ≡ length arena
  unfolding arena_by
  touch_length = go (reads a)
    where
      go : (b : Bool) → length {A = ℕ} (elim b [ true ↦ arena | false ↦ set arena (byte_of o a) (written a) ]) ≡ length arena
      go true = refl
      go false = length-set arena (byte_of o a) (written a)

module _ (o s : List ℤ) (arena : List ℕ) where
  -- Before the first touch.
  pub arena_none : arena_after o s arena 0 ≡ arena
  unfolding arena_after
  arena_none = refl

  -- One touch more.
  pub arena_more : (k : ℕ) → arena_by o (access s k) (arena_after o s arena k) ≡ arena_after o s arena (k + 1)
  unfolding arena_after
  arena_more k = rw (add-one k)

  -- The arena stays as long as it was lent.
  pub arena_length : (k : ℕ) → length (arena_after o s arena k) ≡ length arena
  unfolding arena_after
  arena_length zero = refl
  arena_length (suc k) = touch_length o (access s k) (arena_after o s arena k) ∙ arena_length k
