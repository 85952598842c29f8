-- `arena_sections::Sections::try_open` meets its contract.
use Rattle.std.proofs.Common.{arith, rules, ◌≡◌, Err, ap, ◌∙◌}
use Rattle.arena_sections.proofs.Cases.{open_short, open_long, open_done}
use Rattle.arena_sections.proofs.Subtracted.{too_little, what_is_left}
use Rattle.arena_sections.specs.Sections.{fresh, done_outcome}
use Rattle.arena_sections.proofs.Sections.try_open.Goals as goal

pub returns-in_err-usable : goal.returns-in_err-usable
returns-in_err-usable c =
    let x = too_little _ _ c.checked_sub.ensures c.in_err-usable.ensures.value in
    let r : c.from_residual.result ≡ Err c.in_err-usable.field-0.0 = search rules in
    rw (r, x.0) (open_short _ _ _ (omega (arith, x.1, c.bytes_lost-lost.ensures)))

pub returns-then-usable : goal.returns-then-usable
returns-then-usable c =
    let x = what_is_left _ _ c.checked_sub.ensures c.in_ok-usable.ensures.value in
    open_long _ _ _ (omega (arith, x.1, c.bytes_lost-lost.ensures))

pub returns : goal.returns
returns c =
    let x = what_is_left _ _ c.checked_sub.ensures c.in_ok-usable.ensures.value in
    ap (done_outcome 0) (c.fresh.ensures ∙ ap fresh (omega (arith, x.1, c.bytes_lost-lost.ensures)))
    ∙ open_done _ _ _ (omega (arith, x.0, c.bytes_lost-lost.ensures)) (omega (arith, x.1, c.bytes_lost-lost.ensures))
