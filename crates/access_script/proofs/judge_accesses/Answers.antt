-- `access_script::judge_accesses` meets its contract: the arena, then the lowest bad touch.
use Rattle.std.proofs.Common.{arith, sym, ◌∙◌, ap}
use Rattle.answer.specs.Answer.{refused_at, bad_access as bad_access_number}
use Rattle.answer.specs.Refusals.{told}
use Rattle.access_script.proofs.Performing.{touch_found, no_touch}
use Rattle.access_rule.proofs.Answers.{arena_refused, touch_refused, touches_passed}
use Rattle.access_script.proofs.judge_accesses.Goals as goal

pub returns-then-arena_short : goal.returns-then-arena_short
returns-then-arena_short c = ap told c.at.ensures ∙ arena_refused _ _ _ _ c.if-arena_short.true

pub overflow_cast-touch : goal.overflow_cast-touch
overflow_cast-touch c = let found = touch_found _ _ (sym c.lowest_bad.ensures ∙ c.in-Some.is) in omega (arith, found.0, found.1)

pub returns-in-Some : goal.returns-in-Some
returns-in-Some c =
    let found = touch_found _ _ (sym c.lowest_bad.ensures ∙ c.in-Some.is) in
    ap told c.at-in-Some.ensures ∙ ap (refused_at bad_access_number) (sym found.1) ∙ touch_refused _ _ _ _ c.if-arena_short.false found.0

pub returns : goal.returns
returns c = touches_passed _ _ _ _ c.if-arena_short.false (no_touch _ _ (sym c.lowest_bad.ensures ∙ c.in_default.is))
