-- `requests::check_content` meets its contract: the space, then the lowest bad row.
use Rattle.std.proofs.Common.{arith, sym, ◌∙◌, ap}
use Rattle.std.specs.Prelude.{◌≡◌}
use Rattle.bounded.specs.First.{first_in}
use Rattle.bounded.proofs.Found.{found_some, found_none}
use Rattle.units.specs.Numbered.{row_of}
use Rattle.answer.specs.Refusals.{told}
use Rattle.request_table.proofs.CheckLaws.{space_refused, row_refused, content_passed}
use Rattle.request_table.specs.Table.{rows, bad_row}
use Rattle.requests.proofs.check_content.Goals as goal

pub returns-then-too_large : goal.returns-then-too_large
returns-then-too_large c = ap told c.at.ensures ∙ space_refused c.args.table.now.grid _ _ c.if-too_large.true

pub overflow_cast-row : goal.overflow_cast-row
overflow_cast-row c =
    let found = found_some row_of _ _ _ (sym c.lowest_bad_row-bad.ensures ∙ c.in-Some.is) in
    omega (arith, found.0, ap (λ r. r.0) found.1)

pub returns-in-Some : goal.returns-in-Some
returns-in-Some c =
    let u = c.args in
    let found = found_some row_of _ _ _ (sym c.lowest_bad_row-bad.ensures ∙ c.in-Some.is) in
    let e : first_in (bad_row u.table.now.grid u.table.now.words.now) 0 (rows u.table.now.words.now) ≡ c.in-Some.row.0 = ap (λ r. r.0) found.1 in
    ap told c.at-in-Some.ensures ∙ rw (← e) (row_refused _ _ _ c.if-too_large.false found.0)

pub returns : goal.returns
returns c = content_passed _ _ _ c.if-too_large.false (found_none row_of _ _ (sym c.lowest_bad_row-bad.ensures ∙ c.in_default.is))
