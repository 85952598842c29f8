-- `arena_sections::Sections::try_allocate_persistent` meets its contract: a refusal by 13 or 14 stands, and past them the room decides.
use Rattle.std.proofs.Common.{ℕ, ◌≡◌, Err, sym, ap, ◌∙◌, arith, rules}
use Rattle.answer.proofs.Told.{cause_tells}
use Rattle.arena_sections.proofs.Cases.{persistent_checked, persistent_too_large, persistent_no_room, persistent_room_lem}
use Rattle.arena_sections.proofs.Subtracted.{too_little, what_is_left}
use Rattle.arena_sections.specs.Cases.{number_of}
use Rattle.arena_sections.specs.Sections.{with_tail, done_outcome}
use Rattle.arena_sections.proofs.Sections.try_allocate_persistent.Goals as goal

pub returns-in_err-check_allocation : goal.returns-in_err-check_allocation
returns-in_err-check_allocation c =
    let r : c.from_residual.result ≡ Err c.in_err-check_allocation.field-0.0 = search rules in
    rw r (persistent_checked _ _ _ _ (ap number_of c.in_err-check_allocation.ensures) (cause_tells _))

pub returns-in_err-room : goal.returns-in_err-room
returns-in_err-room c =
    let x = too_little _ _ c.checked_sub.ensures c.in_err-room.ensures.value in
    let r : c.from_residual-in_err-room.result ≡ Err c.in_err-room.field-0.0 = search rules in
    rw (r, x.0) (persistent_too_large _ _ _ _ (sym (ap number_of c.in_ok-check_allocation.ensures)) x.1)

pub returns-then-start-self : goal.returns-then-start-self
returns-then-start-self c =
    let x = what_is_left _ _ c.checked_sub.ensures c.in_ok-room.ensures.value in
    persistent_no_room _ _ _ _ (sym (ap number_of c.in_ok-check_allocation.ensures)) (omega (arith, rw x.1 at c.round_down-start.ensures))

pub returns : goal.returns
returns c =
    let a = c.args in
    let x = what_is_left _ _ c.checked_sub.ensures c.in_ok-room.ensures.value in
    let start = rw x.1 at c.round_down-start.ensures in
    ap (λ (n : ℕ). done_outcome n (with_tail a.self n)) start
    ∙ persistent_room_lem _ _ _ _ (sym (ap number_of c.in_ok-check_allocation.ensures)) x.0 (omega (arith, start))
