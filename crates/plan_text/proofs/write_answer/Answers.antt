-- `plan_text::write_answer` meets its contract: the plan or the refusal whole, or nothing.
use Prim.Native.Nat.{ℕ}
use mathlib.Core.List.{List}
use mathlib.Core.Path.{◌≡◌, sym, ◌∙◌}
use native.Mathlib.Omega.{arith}
use Rattle.plan_text.specs.AllOrNothing.{room_for, whole_written, nothing_written}
use Rattle.text_pieces.specs.Put.{Put}
use Rattle.text_rule.proofs.TextCases.{done_text, refused_text_lem}
use Rattle.text_rule.specs.TextLengths.{Held}
use Rattle.text_rule.proofs.TextLengths.{refused_short}
use Rattle.plan_text.proofs.write_answer.Goals as goal

-- the same text by another name
put_as : {t u text other : List ℕ} {e : ℕ} → other ≡ text → Put t u 0 e text → Put t u 0 e other
put_as q x = rw q x

pub returns-then-not-has_room-clause-count : goal.returns-then-not-has_room-clause-count
returns-then-not-has_room-clause-count c = (nothing_written c.args.text.now _ (sym c.has_room.ensures ∙ c.if-not-has_room.true)).0

pub returns-then-not-has_room-clause-bytes : goal.returns-then-not-has_room-clause-bytes
returns-then-not-has_room-clause-bytes c = (nothing_written c.args.text.now _ (sym c.has_room.ensures ∙ c.if-not-has_room.true)).1

pub returns-then-answer-eq-DONE-clause-count : goal.returns-then-answer-eq-DONE-clause-count
returns-then-answer-eq-DONE-clause-count c =
    (whole_written (sym c.has_room.ensures ∙ c.if-not-has_room.false) (put_as (done_text c.args.answer _ _ c.if-answer-eq-DONE.true) c.put_plan.ensures)).0

pub returns-then-answer-eq-DONE-clause-bytes : goal.returns-then-answer-eq-DONE-clause-bytes
returns-then-answer-eq-DONE-clause-bytes c =
    (whole_written (sym c.has_room.ensures ∙ c.if-not-has_room.false) (put_as (done_text c.args.answer _ _ c.if-answer-eq-DONE.true) c.put_plan.ensures)).1

pub put_refusal-requires : goal.put_refusal-requires
put_refusal-requires c =
    let held : Held c.args.answer = record { number_held = omega arith; a_held = omega arith; b_held = omega arith; need_held = omega arith } in
    room_for _ _ _ (sym c.has_room.ensures ∙ c.if-not-has_room.false) (omega (arith, refused_short c.args.answer held))

pub returns-clause-count : goal.returns-clause-count
returns-clause-count c =
    (whole_written (sym c.has_room.ensures ∙ c.if-not-has_room.false) (put_as (refused_text_lem c.args.answer _ _ c.if-answer-eq-DONE.false) c.put_refusal.ensures)).0

pub returns-clause-bytes : goal.returns-clause-bytes
returns-clause-bytes c =
    (whole_written (sym c.has_room.ensures ∙ c.if-not-has_room.false) (put_as (refused_text_lem c.args.answer _ _ c.if-answer-eq-DONE.false) c.put_refusal.ensures)).1
