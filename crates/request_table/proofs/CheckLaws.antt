-- Laws of the definitions of specs/CheckLaws.antt.
use Rattle.std.specs.Prelude.{ℕ, ◌<◌, ◌≤◌, not, List, ◌≡◌, ℤ}
use Rattle.std.proofs.Math.Path.{refl, sym}
use Rattle.std.proofs.Common.{ap, arith}
use borrow.Author.Tests.{ltb-false, le-ltb, lt-ltb, eqb-true, eq-eqb, not-false}
use Rattle.answer.specs.Answer.{number_of, refused, refused_at, done_with, space_too_large, bad_row as bad_row_number}
use Rattle.answer.specs.declared.Answer.{Answer}
use Rattle.bounded.specs.Causes.{NoneHolds, AllRefuse, Gives}
use Rattle.bounded.proofs.Causes.{given, next, none_left, follows_more, passed, refused_stands}
use Rattle.bounded.specs.First.{first_in, holds_below}
use Rattle.bounded.proofs.First.{none_holds, none_found}
use Rattle.request_table.specs.Limits.{greatest_space}
use Rattle.request_table.specs.Table.{rows, bad_row}
use Rattle.request_table.specs.Checks.{shape_causes, content_causes, table_causes, shape_of, content_of, check_of}
use Rattle.request_table.specs.CheckLaws.{Checked, Shaped}

module _ (g : ℕ) (t : List ℤ) (space : ℕ) where
  content_given : {x : Answer} → Gives (content_causes g t space) (done_with 0) x → x ≡ content_of g t space
  unfolding content_of
  content_given c = c.is

  -- The checks 4 and 5, as the code goes through them: the space first,
  pub space_refused : greatest_space < space → refused space_too_large ≡ content_of g t space
  space_refused l = content_given (given (lt-ltb _ _ l))

  -- then the lowest bad row,
  pub row_refused : space ≤ greatest_space → first_in (bad_row g t) 0 (rows t) < rows t → refused_at bad_row_number (first_in (bad_row g t) 0 (rows t)) ≡ content_of g t space
  unfolding holds_below
  row_refused s l = content_given (next (le-ltb _ _ s) (given (lt-ltb _ _ l)))

  -- and where there is none, both pass.
  pub content_passed : space ≤ greatest_space → rows t ≤ first_in (bad_row g t) 0 (rows t) → done_with 0 ≡ content_of g t space
  unfolding holds_below
  content_passed s l = content_given (next (le-ltb _ _ s) (next (le-ltb _ _ l) none_left))

module _ (t : List ℤ) (room : ℕ) where
  shape_refuses : AllRefuse number_of (shape_causes t room)
  shape_refuses = (omega arith, (omega arith, (omega arith, tt)))

  shaped_of : NoneHolds (shape_causes t room) → Shaped t room
  shaped_of n = record { whole = eqb-true _ _ (not-false _ n.0); few = ltb-false _ _ n.1.0; roomy = ltb-false _ _ n.1.1.0 }

  none_of : Shaped t room → NoneHolds (shape_causes t room)
  none_of s = (ap not (eq-eqb _ _ s.whole), (le-ltb _ _ s.few, (le-ltb _ _ s.roomy, tt)))

  -- The checks 1 to 3 pass: the lengths are as they must be.
  pub shape_passed : (shape_of t room).number ≡ 0 → Shaped t room
  unfolding shape_of
  shape_passed e = shaped_of (passed number_of (shape_causes t room) (done_with 0) shape_refuses e).0

  module _ (g space : ℕ) where
    -- A refusal of the checks 1 to 3 is the refusal of all five;
    pub shape_refused : ((shape_of t room).number ≡ 0 → ⊥) → shape_of t room ≡ check_of g t space room
    unfolding shape_of check_of
    shape_refused h = refused_stands number_of (shape_causes t room) (content_causes g t space) (done_with 0) (done_with 0) refl h

    -- past them, the checks 4 and 5 decide.
    pub content_decides : Shaped t room → content_of g t space ≡ check_of g t space room
    unfolding check_of content_of
    content_decides s = sym (follows_more (shape_causes t room) (content_causes g t space) (done_with 0) (none_of s))

    table_refuses : AllRefuse number_of (table_causes g t space room)
    table_refuses = (omega arith, (omega arith, (omega arith, (omega arith, (omega arith, tt)))))

    -- The checks 1 to 5 pass exactly when lengths, space and rows are as they must be: one way,
    pub checked : (check_of g t space room).number ≡ 0 → Checked g t space room
    unfolding check_of
    checked e =
        let n = (passed number_of (table_causes g t space room) (done_with 0) table_refuses e).0 in
        record {
          shaped = shaped_of (n.0, (n.1.0, (n.1.1.0, tt)));
          allowed = ltb-false _ _ n.1.1.1.0;
          good_rows = λ r l. not-false _ (none_holds (bad_row g t) (rows t) n.1.1.1.1.0 r l);
        }

    -- and the other: then no cause holds.
    pub none_refuses : Checked g t space room → NoneHolds (table_causes g t space room)
    none_refuses c =
        let n = none_of c.shaped in
        (n.0, (n.1.0, (n.1.1.0, (le-ltb _ _ c.allowed, (none_found (bad_row g t) (rows t) (λ r l. ap not (c.good_rows r l)), tt)))))
