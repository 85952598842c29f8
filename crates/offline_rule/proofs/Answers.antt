-- Laws of the definitions of specs/Answers.antt.
use Rattle.std.specs.Prelude.{ℕ, true, List, ◌++◌, ◌≡◌, refl, ℤ, pos, negsuc, length, drop}
use Rattle.std.proofs.Math.Bool.{not}
use Rattle.std.proofs.Common.{ap, arith}
use borrow.Author.Tests.{le-ltb, ltb-false, eq-eqb, ne_eqb, eqb-true, not-false}
use Rattle.answer.specs.Answer.{number_of, done_with}
use Rattle.answer.specs.declared.Answer.{Answer}
use Rattle.bounded.proofs.Boolean.{contrary}
use Rattle.bounded.specs.Causes.{NoneHolds, AllRefuse, Gives}
use Rattle.bounded.proofs.Causes.{follows, passed}
use Rattle.word_lists.specs.WordLists.{words_from, with_words}
use Rattle.offline_rule.specs.OfflinePlan.{plan_bytes, offsets_place, is_number, read_causes, read_of, offsets_read, plan_words, write_causes, write_of, bytes_written}
use Rattle.offline_rule.specs.Answers.{Readable, Writable}

-- The test of the third word says that it is the number,
pub number_says : (z : ℤ) (n : ℕ) → is_number z n ≡ true → z ≡ pos n
unfolding is_number
number_says (pos m) n e = ap pos (eqb-true m n e)
number_says (negsuc m) n e = contrary e refl

-- and the other way.
pub number_of_lem : (z : ℤ) (n : ℕ) → z ≡ pos n → is_number z n ≡ true
unfolding is_number
number_of_lem z n e = rw e (eq-eqb n n refl)

module _ (bytes : List ℕ) (tensors room : ℕ) where
  read_refuses : AllRefuse number_of (read_causes bytes tensors room)
  read_refuses = (omega arith, (omega arith, (omega arith, (omega arith, (omega arith, tt)))))

  -- What is given, as the code goes through the checks, is the answer.
  pub read_given : {x : Answer} → Gives (read_causes bytes tensors room) (done_with 0) x → x ≡ read_of bytes tensors room
  unfolding read_of
  read_given g = g.is

  -- It is done only so,
  pub read_says : (read_of bytes tensors room).number ≡ 0 → Readable bytes tensors room
  unfolding read_of
  read_says z =
      let n = (passed number_of (read_causes bytes tensors room) (done_with 0) read_refuses z).0 in
      record {
        count_is = number_says _ _ (not-false _ n.1.0);
        whole = eqb-true _ _ (not-false _ n.1.1.0);
        few = ltb-false _ _ n.1.1.1.0;
        roomy = ltb-false _ _ n.1.1.1.1.0;
      }

  -- and the other way.
  pub read_of_lem : Readable bytes tensors room → read_of bytes tensors room ≡ done_with 0
  unfolding read_of
  read_of_lem r =
      let none : NoneHolds (read_causes bytes tensors room) =
      (le-ltb (length bytes) (plan_bytes 0) (omega (arith, r.whole)), (ap not (number_of_lem _ _ r.count_is), (ap not (eq-eqb _ _ r.whole), (le-ltb _ _ r.few, (le-ltb _ _ r.roomy, tt))))) in
      follows (read_causes bytes tensors room) (done_with 0) none

module _ (bytes : List ℕ) (tensors : ℕ) (offsets : List ℤ) where
  -- The table of a done answer: the plan's offsets, and the rest as it was.
  pub done_read : (read_of bytes tensors (length offsets)).number ≡ 0 → offsets_read bytes tensors offsets ≡ words_from bytes offsets_place tensors ++ drop tensors offsets
  unfolding offsets_read
  done_read z = rw (eq-eqb (read_of bytes tensors (length offsets)).number 0 z, offsets_read)

  -- A refusal leaves it as it was.
  pub refusal_keeps_offsets : ((read_of bytes tensors (length offsets)).number ≡ 0 → ⊥) → offsets_read bytes tensors offsets ≡ offsets
  unfolding offsets_read
  refusal_keeps_offsets f = rw (ne_eqb (read_of bytes tensors (length offsets)).number 0 f, offsets_read)

module _ (offsets : List ℤ) (room : ℕ) where
  write_refuses : AllRefuse number_of (write_causes offsets room)
  write_refuses = (omega arith, (omega arith, tt))

  -- What is given, as the code goes through the checks, is the answer.
  pub write_given : {x : Answer} → Gives (write_causes offsets room) (done_with 0) x → x ≡ write_of offsets room
  unfolding write_of
  write_given g = g.is

  -- It is done only so,
  pub write_says : (write_of offsets room).number ≡ 0 → Writable offsets room
  unfolding write_of
  write_says z =
      let n = (passed number_of (write_causes offsets room) (done_with 0) write_refuses z).0 in
      record { few = ltb-false _ _ n.0; roomy = ltb-false _ _ n.1.0 }

  -- and the other way.
  pub write_of_lem : Writable offsets room → write_of offsets room ≡ done_with 0
  unfolding write_of
  write_of_lem w =
      let none : NoneHolds (write_causes offsets room) = (le-ltb _ _ w.few, (le-ltb _ _ w.roomy, tt)) in
      follows (write_causes offsets room) (done_with 0) none

module _ (offsets : List ℤ) (bytes : List ℕ) where
  -- The bytes of a done answer: the plan's words, and the rest as it was.
  pub done_written : (write_of offsets (length bytes)).number ≡ 0 → bytes_written offsets bytes ≡ with_words bytes 0 (plan_words offsets)
  unfolding bytes_written
  done_written z = rw (eq-eqb (write_of offsets (length bytes)).number 0 z, bytes_written)

  -- A refusal leaves them as they were.
  pub refusal_keeps_bytes : ((write_of offsets (length bytes)).number ≡ 0 → ⊥) → bytes_written offsets bytes ≡ bytes
  unfolding bytes_written
  refusal_keeps_bytes f = rw (ne_eqb (write_of offsets (length bytes)).number 0 f, bytes_written)
