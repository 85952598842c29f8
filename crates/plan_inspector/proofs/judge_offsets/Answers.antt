-- `plan_inspector::judge_offsets` meets its contract: each way out is the first cause that holds.
use Rattle.std.proofs.Common.{arith, sym, ◌∙◌, ap, ap₂}
use Rattle.std.specs.Prelude.{◌≡◌}
use Rattle.answer.specs.Answer.{done_with, refused_pair, refused_need, need_exceeds_space, rows_collide}
use Rattle.answer.specs.Refusals.{told}
use Rattle.bounded.proofs.Found.{found_some, found_none}
use Rattle.bounded.proofs.Pair.{least_pair}
use Rattle.bounded.specs.First.{first_in}
use Rattle.request_table.specs.Table.{rows}
use Rattle.units.specs.Numbered.{row_of}
use Rattle.inspection_rule.proofs.Answers.{moved_refused, grid_refused, need_refused, placed_decides, pair_decides, pair_refused, accepted}
use Rattle.inspection_rule.specs.Inspect.{moved, off_grid, proposed_collide}
use Rattle.plan_inspector.proofs.FirstPairs.{pair_says, nothing_says}
use Rattle.plan_inspector.proofs.judge_offsets.Goals as goal

pub overflow_cast-row : goal.overflow_cast-row
overflow_cast-row c =
    let found = found_some row_of _ _ _ (sym c.lowest_moved.ensures ∙ c.in-Some.is) in
    omega (arith, found.0, ap (λ r. r.0) found.1)

pub returns-in-Some : goal.returns-in-Some
returns-in-Some c =
    let p = c.args.proposal.now in
    let found = found_some row_of _ _ _ (sym c.lowest_moved.ensures ∙ c.in-Some.is) in
    let e : first_in (moved p.table.words.now p.offsets.now) 0 (rows p.table.words.now) ≡ c.in-Some.row.0 = ap (λ r. r.0) found.1 in
    ap told c.at.ensures ∙ rw (← e) (moved_refused _ _ _ _ found.0)

pub overflow_cast-row-in-Some-lowest_off_grid : goal.overflow_cast-row-in-Some-lowest_off_grid
overflow_cast-row-in-Some-lowest_off_grid c =
    let found = found_some row_of _ _ _ (sym c.lowest_off_grid.ensures ∙ c.in-Some-lowest_off_grid.is) in
    omega (arith, found.0, ap (λ r. r.0) found.1)

pub returns-in-Some-lowest_off_grid : goal.returns-in-Some-lowest_off_grid
returns-in-Some-lowest_off_grid c =
    let p = c.args.proposal.now in
    let still = found_none row_of _ _ (sym c.lowest_moved.ensures ∙ c.in_default.is) in
    let found = found_some row_of _ _ _ (sym c.lowest_off_grid.ensures ∙ c.in-Some-lowest_off_grid.is) in
    let e : first_in (off_grid p.table.grid p.offsets.now) 0 (rows p.table.words.now) ≡ c.in-Some-lowest_off_grid.row.0 = ap (λ r. r.0) found.1 in
    ap told c.at-in-Some-lowest_off_grid.ensures ∙ rw (← e) (grid_refused _ _ _ _ still found.0)

pub returns-then-exceeds : goal.returns-then-exceeds
returns-then-exceeds c =
    let still = found_none row_of _ _ (sym c.lowest_moved.ensures ∙ c.in_default.is) in
    let even = found_none row_of _ _ (sym c.lowest_off_grid.ensures ∙ c.in_default-lowest_off_grid.is) in
    ap told c.with_need.ensures ∙ ap (refused_need need_exceeds_space) c.need_of-need.ensures ∙ need_refused _ _ _ _ (rw c.need_of-need.ensures at c.if-exceeds.true) ∙ placed_decides _ _ _ _ still even

pub overflow_cast-a : goal.overflow_cast-a
overflow_cast-a c =
    let p = c.args.proposal.now in
    let says = pair_says row_of (proposed_collide p.table.grid p.table.words.now p.offsets.now) (rows p.table.words.now) _ _ (sym c.first_pair.ensures ∙ c.in-Some-first_pair.is) in
    let least = least_pair _ _ says.0 in
    omega (arith, least.rising, least.within, ap (λ r. r.0) says.1)

pub overflow_cast-b : goal.overflow_cast-b
overflow_cast-b c =
    let p = c.args.proposal.now in
    let says = pair_says row_of (proposed_collide p.table.grid p.table.words.now p.offsets.now) (rows p.table.words.now) _ _ (sym c.first_pair.ensures ∙ c.in-Some-first_pair.is) in
    let least = least_pair _ _ says.0 in
    omega (arith, least.within, ap (λ r. r.0) says.2)

pub returns-in-Some-first_pair : goal.returns-in-Some-first_pair
returns-in-Some-first_pair c =
    let p = c.args.proposal.now in
    let says = pair_says row_of (proposed_collide p.table.grid p.table.words.now p.offsets.now) (rows p.table.words.now) _ _ (sym c.first_pair.ensures ∙ c.in-Some-first_pair.is) in
    let still = found_none row_of _ _ (sym c.lowest_moved.ensures ∙ c.in_default.is) in
    let even = found_none row_of _ _ (sym c.lowest_off_grid.ensures ∙ c.in_default-lowest_off_grid.is) in
    ap told c.pair.ensures
    ∙ ap₂ (refused_pair rows_collide) (sym (ap (λ r. r.0) says.1)) (sym (ap (λ r. r.0) says.2))
    ∙ pair_refused _ _ _ says.0
    ∙ pair_decides _ _ _ _ (rw c.need_of-need.ensures at c.if-exceeds.false)
    ∙ placed_decides _ _ _ _ still even

pub returns : goal.returns
returns c =
    let p = c.args.proposal.now in
    let none = nothing_says row_of (proposed_collide p.table.grid p.table.words.now p.offsets.now) (rows p.table.words.now) (sym c.first_pair.ensures ∙ c.in_default-first_pair.is) in
    let still = found_none row_of _ _ (sym c.lowest_moved.ensures ∙ c.in_default.is) in
    let even = found_none row_of _ _ (sym c.lowest_off_grid.ensures ∙ c.in_default-lowest_off_grid.is) in
    ap done_with c.need_of-need.ensures
    ∙ accepted _ _ _ none
    ∙ pair_decides _ _ _ _ (rw c.need_of-need.ensures at c.if-exceeds.false)
    ∙ placed_decides _ _ _ _ still even
