-- `ledger_entries::some_passes` meets its contract: `any` looks at each entry.
use Rattle.std.proofs.Common.{◌<◌, ◌≤◌, rules}
use borrow.Author.Tests.{tests}
use Rattle.std.proofs.lemmas.Iterator.{cases_from_any, YieldsList-from_slice}
use Rattle.recording_rule.specs.declared.RecordedAllocation.{RecordedAllocation}
use Rattle.ledger_entries.proofs.Entries.{some_pass}
use Rattle.ledger_entries.proofs.SixKinds.{six_kinds}
use Rattle.ledger_entries.proofs.some_passes.Goals as goal

pub returns : goal.returns
returns c =
    let l = c.args.ledger in
    some_pass l (six_kinds l _ c.well_formed.0) _
    (cases_from_any _ _ _ (λ (r : RecordedAllocation). r.used < r.requested) (λ (r : RecordedAllocation). r.requested ≤ r.used) c.any.ensures.ran
    (YieldsList-from_slice l.kinds c.iter.ensures.rest) (λ x q k. search (rules, tests)) (λ x q k. search (rules, tests)))
