-- Laws of a run, of any proposal and any script: a byte of the arena is the value of the last write that fell on it, or as lent.
use Prim.Native.Nat.{ℕ, zero, suc, ◌<◌}
use Rattle.std.specs.Prelude.{Bool, true, false, List, ◌≡◌, ℤ, length}
use Rattle.std.proofs.Math.Logic.{⊎_elim}
use Rattle.std.proofs.Math.Path.{refl, sym, subst}
use Rattle.std.proofs.Common.{◌∙◌, ap, eq-or-lt_of_le, le_of_suc-le-suc, arith, get_or-set_same, get_or-set_other}
use Rattle.std.proofs.Math.ListN.{get_or}
use Rattle.access_rule.specs.Accesses.{access, reads, written}
use Rattle.access_rule.specs.Run.{byte_of, arena_by, arena_after, answer_byte}
use Rattle.access_rule.proofs.RunLaws.{read_leaves, read_answers, write_sets, write_answers, arena_length}
use Rattle.access_rule.specs.declared.Access.{Access}

-- ---- one touch

module _ (o : List ℤ) (a : Access) (arena : List ℕ) where
  -- A write leaves its value in its byte.
  by_write : reads a ≡ false → byte_of o a < length arena → get_or (arena_by o a arena) (byte_of o a) 0 ≡ written a
  by_write e l = ap (λ (xs : List ℕ). get_or xs (byte_of o a) 0) (sym (write_sets o a arena e)) ∙ get_or-set_same arena (byte_of o a) (written a) 0 l

  -- A touch that does not write a byte leaves it.
  by_other : (x : ℕ) → (reads a ≡ false → byte_of o a ≡ x → ⊥) → get_or (arena_by o a arena) x 0 ≡ get_or arena x 0
  by_other x f = go (reads a) refl
    where
      go : (b : Bool) → reads a ≡ b → get_or (arena_by o a arena) x 0 ≡ get_or arena x 0
      go true e = ap (λ (xs : List ℕ). get_or xs x 0) (sym (read_leaves o a arena e))
      go false e = ap (λ (xs : List ℕ). get_or xs x 0) (sym (write_sets o a arena e)) ∙ get_or-set_other arena (byte_of o a) x (written a) 0 (λ q. f e (sym q))

-- ---- a run

module _ (o s : List ℤ) (arena : List ℕ) where
  -- The value that touch j writes stands in its byte after n touches, if no touch between writes that byte.
  pub stands : (n j x : ℕ) → j < n → reads (access s j) ≡ false → byte_of o (access s j) ≡ x → x < length arena
      → ((i : ℕ) → j < i → i < n → reads (access s i) ≡ false → byte_of o (access s i) ≡ x → ⊥) → get_or (arena_after o s arena n) x 0 ≡ written (access s j)
  unfolding arena_after
  stands zero j x l e q b f = absurd (omega arith)
  stands (suc n) j x l e q b f =
      ⊎_elim
      (λ d. subst (λ (i : ℕ). get_or (arena_by o (access s i) (arena_after o s arena i)) x 0 ≡ written (access s j)) d
      (subst (λ (y : ℕ). get_or (arena_by o (access s j) (arena_after o s arena j)) y 0 ≡ written (access s j)) q
      (by_write o (access s j) (arena_after o s arena j) e (omega (arith, arena_length o s arena j)))))
      (λ m. by_other o (access s n) (arena_after o s arena n) x (f n m (omega arith)) ∙ stands n j x m e q b (λ i lo hi. f i lo (omega arith)))
      (eq-or-lt_of_le (le_of_suc-le-suc l))

  -- A byte that none of the first n touches writes is as lent.
  pub untouched : (n x : ℕ) → ((i : ℕ) → i < n → reads (access s i) ≡ false → byte_of o (access s i) ≡ x → ⊥) → get_or (arena_after o s arena n) x 0 ≡ get_or arena x 0
  unfolding arena_after
  untouched zero x f = refl
  untouched (suc n) x f = by_other o (access s n) (arena_after o s arena n) x (f n (omega arith)) ∙ untouched n x (λ i l. f i (omega arith))

  -- A read answers with its byte as it stands; a write with its value.
  pub read_answer : (k : ℕ) → reads (access s k) ≡ true → answer_byte o s arena k ≡ get_or (arena_after o s arena k) (byte_of o (access s k)) 0
  unfolding answer_byte
  read_answer k e = sym (read_answers o (access s k) (arena_after o s arena k) e)

  pub write_answer : (k : ℕ) → reads (access s k) ≡ false → answer_byte o s arena k ≡ written (access s k)
  unfolding answer_byte
  write_answer k e = sym (write_answers o (access s k) (arena_after o s arena k) e)
