-- `greedy_planner::fit` meets its contract.
use Prim.Native.Nat.{ℕ, ◌<◌, ◌≤◌}
use mathlib.Core.List.{List}
use mathlib.Core.Path.{◌≡◌, sym, ◌∙◌, ap}
use lib.IntN.{ℤ}
use native.Mathlib.Omega.{arith}
use Rattle.answer.specs.Answer.{number_of, done_with, refused_need, need_exceeds_space}
use Rattle.answer.specs.Refusals.{told}
use Rattle.answer.proofs.Told.{refusal_refuses}
use Rattle.greedy_rule.proofs.Answers.{Done, no_clash, fit_refused, need_decides, done_of}
use Rattle.greedy_rule.proofs.DonePlans.{refusal_keeps}
use Rattle.greedy_rule.proofs.PlanFits.{plan_fits}
use Rattle.greedy_rule.specs.Plan.{greedy_need, plan_of}
use Rattle.greedy_planner.specs.Judged.{Placeable}
use Rattle.greedy_planner.proofs.Tables.{table_planned}
use Rattle.greedy_planner.proofs.fit.Goals as goal

-- the need exceeds the space: that is the planner's answer
too_much : (g : ℕ) (t : List ℤ) (space room : ℕ) {need : ℕ} → Placeable g t space room → need ≡ greedy_need g t → space < need
    → refused_need need_exceeds_space need ≡ plan_of g t space room
too_much g t space room p e l = rw e (fit_refused g t space (rw e at l)) ∙ need_decides g t space room p.checks p.apart

-- the need keeps to the space: the planner is done
finished : (g : ℕ) (t : List ℤ) (space room : ℕ) {need : ℕ} → Placeable g t space room → need ≡ greedy_need g t → need ≤ space → Done g t space room
finished g t space room p e l = record { checks = p.checks; apart = no_clash _ _ p.apart; fits = rw e at l }

pub returns-then-exceeds-clause-answer : goal.returns-then-exceeds-clause-answer
returns-then-exceeds-clause-answer c =
    ap told c.with_need.ensures ∙ too_much _ _ _ _ c.requires.placeable c.need_of-need.ensures c.if-exceeds.true

pub returns-then-exceeds-clause-table : goal.returns-then-exceeds-clause-table
returns-then-exceeds-clause-table c =
    let a = ap told c.with_need.ensures ∙ too_much _ _ _ _ c.requires.placeable c.need_of-need.ensures c.if-exceeds.true in
    sym (refusal_keeps _ _ _ _ (refusal_refuses c.with_need.result a))

pub store-requires-clause-small_offsets : goal.store-requires-clause-small_offsets
store-requires-clause-small_offsets c =
    let d = finished _ _ _ _ c.requires.placeable c.need_of-need.ensures c.if-exceeds.false in
    let h = c.place_rows-found.ensures in
    record { each = λ r l. omega (arith, h.each r l, plan_fits _ _ _ _ c.requires.grid_nonzero.0 d r l) }

pub returns-clause-answer : goal.returns-clause-answer
returns-clause-answer c =
    ap done_with c.need_of-need.ensures ∙ sym (done_of _ _ _ _ (finished _ _ _ _ c.requires.placeable c.need_of-need.ensures c.if-exceeds.false))

pub returns-clause-table : goal.returns-clause-table
returns-clause-table c =
    let a = done_of _ _ _ _ (finished _ _ _ _ c.requires.placeable c.need_of-need.ensures c.if-exceeds.false) in
    c.store.ensures ∙ table_planned _ _ _ _ _ (ap number_of a) c.place_rows-found.ensures
