-- `arena_sections::Sections::try_allocate_temp` meets its contract: a refusal by 13 or 14 stands, and past them the room decides.
use Rattle.std.proofs.Common.{ℕ, ◌+◌, ◌≡◌, Err, sym, ap, ◌∙◌, arith, rules}
use Rattle.alignment.proofs.Rounding.{up_most}
use Rattle.answer.proofs.Told.{cause_tells}
use Rattle.arena_sections.proofs.Cases.{temp_checked, temp_no_room, temp_room_lem}
use Rattle.arena_sections.specs.Cases.{number_of}
use Rattle.arena_sections.specs.Sections.{with_temp, done_outcome}
use Rattle.arena_sections.proofs.Sections.try_allocate_temp.Goals as goal

pub returns-in_err-check_allocation : goal.returns-in_err-check_allocation
returns-in_err-check_allocation c =
    let r : c.from_residual.result ≡ Err c.in_err-check_allocation.field-0.0 = search rules in
    rw r (temp_checked _ _ _ _ (ap number_of c.in_err-check_allocation.ensures) (cause_tells _))

pub overflow_add-end : goal.overflow_add-end
overflow_add-end c = let a = c.args in omega (arith, c.round_up-start.ensures, up_most a.alignment a.self.temp)

pub returns-then-self-end : goal.returns-then-self-end
returns-then-self-end c =
    temp_no_room _ _ _ _ (sym (ap number_of c.in_ok-check_allocation.ensures)) (omega (arith, c.round_up-start.ensures))

pub returns : goal.returns
returns c =
    let a = c.args in
    ap (λ (start : ℕ). done_outcome start (with_temp a.self (start + a.size))) c.round_up-start.ensures
    ∙ temp_room_lem _ _ _ _ (sym (ap number_of c.in_ok-check_allocation.ensures)) (omega (arith, c.round_up-start.ensures))
