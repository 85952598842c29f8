-- Laws of the definitions of specs/Answers.antt.
use Rattle.std.specs.Prelude.{ℕ, ◌<◌, ◌≤◌, true, not, List, ◌++◌, ◌≡◌, ltb, ℤ, length}
use Rattle.std.proofs.Math.Path.{refl, sym, ap}
use Rattle.std.proofs.Common.{◌∙◌, arith}
use borrow.Author.Tests.{ltb-false, le-ltb, lt-ltb, eqb-true, eq-eqb, ne_eqb, not-false}
use Rattle.answer.specs.Answer.{number_of, refused, refused_at, done_with, arena_too_short, bad_access as bad_access_number}
use Rattle.answer.specs.declared.Answer.{Answer}
use Rattle.bounded.proofs.Boolean.{neither, neither_holds}
use Rattle.bounded.specs.Causes.{NoneHolds, AllRefuse, Gives, first_cause}
use Rattle.bounded.proofs.Causes.{given, next, none_left, follows, follows_more, passed, refused_stands}
use Rattle.bounded.specs.First.{first_in, holds_below}
use Rattle.bounded.proofs.First.{none_holds}
use Rattle.bounded.specs.Replaced.{replaced}
use Rattle.request_table.specs.Checks.{shape_causes}
use Rattle.request_table.specs.Limits.{greatest_rows}
use Rattle.request_table.specs.Table.{rows, whole_rows}
use Rattle.inspection_rule.specs.Inspect.{accepted_answer, inspect_of}
use Rattle.access_rule.specs.Accesses.{greatest_accesses, count, good, bad_access}
use Rattle.access_rule.specs.Run.{arena_after, answer_byte}
use Rattle.access_rule.specs.Script.{length_causes, inspector_causes, last_causes, script_causes, lengths_of, touches_of, script_of, final_arena, final_bytes}
use Rattle.access_rule.specs.Answers.{Sized}

-- ---- the checks 12 and 11, as the code goes through them

module _ (t : List ℤ) (space : ℕ) (s : List ℤ) (held : ℕ) where
  last_given : {x : Answer} → Gives (last_causes t space s held) (done_with 0) x → x ≡ touches_of t space s held
  unfolding touches_of
  last_given g = g.is

  -- The arena first,
  pub arena_refused : held < space → refused arena_too_short ≡ touches_of t space s held
  arena_refused l = last_given (given (lt-ltb _ _ l))

  -- then the lowest bad touch,
  pub touch_refused : space ≤ held → first_in (bad_access t s) 0 (count s) < count s
      → refused_at bad_access_number (first_in (bad_access t s) 0 (count s)) ≡ touches_of t space s held
  unfolding holds_below
  touch_refused h l = last_given (next (le-ltb _ _ h) (given (lt-ltb _ _ l)))

  -- and where there is none, both pass.
  pub touches_passed : space ≤ held → count s ≤ first_in (bad_access t s) 0 (count s) → done_with 0 ≡ touches_of t space s held
  unfolding holds_below
  touches_passed h l = last_given (next (le-ltb _ _ h) (next (le-ltb _ _ l) none_left))

  touch_refuses : AllRefuse number_of (last_causes t space s held)
  touch_refuses = (omega arith, (omega arith, tt))

  -- Both pass: the answer is done, with all zeros.
  pub touches_done : (touches_of t space s held).number ≡ 0 → done_with 0 ≡ touches_of t space s held
  unfolding touches_of
  touches_done e = sym (follows (last_causes t space s held) (done_with 0) (passed number_of (last_causes t space s held) (done_with 0) touch_refuses e).0)

-- ---- the checks 1 to 3

module _ (t o s : List ℤ) (room : ℕ) where
  length_refuses : AllRefuse number_of (length_causes t o s room)
  length_refuses = (omega arith, (omega arith, (omega arith, tt)))

  sized_of : NoneHolds (length_causes t o s room) → Sized t o s room
  sized_of n =
      let one = neither (not (whole_rows t)) (not (whole_rows s)) n.0 in
      let two = neither (ltb greatest_rows (rows t)) (ltb greatest_accesses (count s)) n.1.0 in
      let three = neither (ltb (length o) (rows t)) (ltb room (count s)) n.1.1.0 in
      record {
        whole = eqb-true _ _ (not-false _ one.0);
        whole_script = eqb-true _ _ (not-false _ one.1);
        few = ltb-false _ _ two.0;
        few_accesses = ltb-false _ _ two.1;
        proposed_all = ltb-false _ _ three.0;
        roomy = ltb-false _ _ three.1;
      }

  none_of : Sized t o s room → NoneHolds (length_causes t o s room)
  none_of z =
      let one = neither_holds (not (whole_rows t)) (not (whole_rows s)) (ap not (eq-eqb _ _ z.whole)) (ap not (eq-eqb _ _ z.whole_script)) in
      let two = neither_holds (ltb greatest_rows (rows t)) (ltb greatest_accesses (count s)) (le-ltb _ _ z.few) (le-ltb _ _ z.few_accesses) in
      let three = neither_holds (ltb (length o) (rows t)) (ltb room (count s)) (le-ltb _ _ z.proposed_all) (le-ltb _ _ z.roomy) in
      (one, (two, (three, tt)))

  -- the inspector's own checks 1 to 3 pass then
  shape_none : Sized t o s room → NoneHolds (shape_causes t (length o))
  shape_none z = (ap not (eq-eqb _ _ z.whole), (le-ltb _ _ z.few, (le-ltb _ _ z.proposed_all, tt)))

  -- The checks 1 to 3 pass: the lengths are as they must be.
  pub lengths_passed : (lengths_of t o s room).number ≡ 0 → Sized t o s room
  unfolding lengths_of
  lengths_passed e = sized_of (passed number_of (length_causes t o s room) (done_with 0) length_refuses e).0

  -- ---- the order of the three

  module _ (g space held : ℕ) where
    inspector_refuses : AllRefuse number_of (inspector_causes g t space o)
    inspector_refuses = (omega arith, (omega arith, (omega arith, (omega arith, (omega arith, (omega arith, tt))))))

    inspected : Sized t o s room → inspect_of g t space o ≡ first_cause (inspector_causes g t space o) (accepted_answer g t o)
    unfolding inspect_of
    inspected z = follows_more (shape_causes t (length o)) (inspector_causes g t space o) (accepted_answer g t o) (shape_none z)

    past_lengths : Sized t o s room → first_cause (inspector_causes g t space o ++ last_causes t space s held) (done_with 0) ≡ script_of g t space o s held room
    unfolding script_of
    past_lengths z = sym (follows_more (length_causes t o s room) (inspector_causes g t space o ++ last_causes t space s held) (done_with 0) (none_of z))

    -- A refusal of the checks 1 to 3 is the script's;
    pub lengths_stand : ((lengths_of t o s room).number ≡ 0 → ⊥) → lengths_of t o s room ≡ script_of g t space o s held room
    unfolding lengths_of script_of
    lengths_stand h = refused_stands number_of (length_causes t o s room) (inspector_causes g t space o ++ last_causes t space s held) (done_with 0) (done_with 0) refl h

    -- past them, a refusal of the inspector is;
    pub inspection_stands : Sized t o s room → ((inspect_of g t space o).number ≡ 0 → ⊥) → inspect_of g t space o ≡ script_of g t space o s held room
    inspection_stands z h =
        inspected z
        ∙ refused_stands number_of (inspector_causes g t space o) (last_causes t space s held) (accepted_answer g t o) (done_with 0) refl (λ e. h (ap number_of (inspected z) ∙ e))
        ∙ past_lengths z

    -- past both, the arena and the touches decide.
    pub touches_decide : Sized t o s room → (inspect_of g t space o).number ≡ 0 → touches_of t space s held ≡ script_of g t space o s held room
    unfolding touches_of
    touches_decide z e =
        let n = (passed number_of (inspector_causes g t space o) (accepted_answer g t o) inspector_refuses (sym (ap number_of (inspected z)) ∙ e)).0 in
        sym (follows_more (inspector_causes g t space o) (last_causes t space s held) (done_with 0) n) ∙ past_lengths z

    -- ---- done

    script_refuses : AllRefuse number_of (script_causes g t space o s held room)
    script_refuses =
        (omega arith, (omega arith, (omega arith, (omega arith, (omega arith, (omega arith, (omega arith, (omega arith, (omega arith, (omega arith, (omega arith, tt)))))))))))

    -- What a done answer says: the lengths are as they must be, the inspector accepts the plan, the arena is long enough, and every touch is good.
    pub record Done : Type 0 where
      pub sized : Sized t o s room
      pub accepted : (inspect_of g t space o).number ≡ 0
      pub held_enough : space ≤ held
      pub all_good : (k : ℕ) → k < count s → good t s k ≡ true

    -- The answer is done only then.
    pub done_says : (script_of g t space o s held room).number ≡ 0 → Done
    unfolding script_of
    done_says e =
        let n = (passed number_of (script_causes g t space o s held room) (done_with 0) script_refuses e).0 in
        let m = n.1.1.1 in
        let z = sized_of (n.0, (n.1.0, (n.1.1.0, tt))) in
        let six : NoneHolds (inspector_causes g t space o) = (m.0, (m.1.0, (m.1.1.0, (m.1.1.1.0, (m.1.1.1.1.0, (m.1.1.1.1.1.0, tt)))))) in
        record {
          sized = z;
          accepted = ap number_of (inspected z ∙ follows (inspector_causes g t space o) (accepted_answer g t o) six);
          held_enough = ltb-false _ _ m.1.1.1.1.1.1.0;
          all_good = λ k l. not-false _ (none_holds (bad_access t s) (count s) m.1.1.1.1.1.1.1.0 k l);
        }

-- ---- what is left in the end

module _ (g : ℕ) (t : List ℤ) (space : ℕ) (o s : List ℤ) (arena bytes : List ℕ) where
  -- Done: the arena is as the touches leave it, and the byte answers are theirs.
  pub done_arena : (script_of g t space o s (length arena) (length bytes)).number ≡ 0 → final_arena g t space o s arena bytes ≡ arena_after o s arena (count s)
  unfolding final_arena
  done_arena e = rw (eq-eqb (script_of g t space o s (length arena) (length bytes)).number 0 e, final_arena)

  pub done_bytes : (script_of g t space o s (length arena) (length bytes)).number ≡ 0
      → final_bytes g t space o s arena bytes ≡ replaced (answer_byte o s arena) (count s) bytes
  unfolding final_bytes
  done_bytes e = rw (eq-eqb (script_of g t space o s (length arena) (length bytes)).number 0 e, final_bytes)

  -- A refusal leaves both as lent.
  pub refusal_keeps : ((script_of g t space o s (length arena) (length bytes)).number ≡ 0 → ⊥)
      → (final_arena g t space o s arena bytes ≡ arena) × (final_bytes g t space o s arena bytes ≡ bytes)
  unfolding final_arena final_bytes
  refusal_keeps h =
      let e = ne_eqb (script_of g t space o s (length arena) (length bytes)).number 0 h in
      (rw (e, final_arena), rw (e, final_bytes))
