-- `ledger_entries::total_used` meets its contract: the chain adds up the used bytes.
use Rattle.std.proofs.Common.{rules, ◌≡◌, ◌∙◌, sum_by}
use Rattle.std.proofs.iter.runs.Sources.{sums}
use Rattle.recording_rule.specs.Ledger.{used_bytes}
use Rattle.ledger_entries.proofs.Entries.{added_up}
use Rattle.ledger_entries.proofs.SixKinds.{total_fits}
use Rattle.ledger_entries.proofs.total_used.Goals as goal

pub sum-requires-clause-fits : goal.sum-requires-clause-fits
sum-requires-clause-fits c = let fits = total_fits c.args.ledger _ c.well_formed.0 in search (rules, sums)

pub returns : goal.returns
returns c =
    let chain : c.sum.result ≡ sum_by used_bytes c.args.ledger.kinds = search rules in
    chain ∙ added_up c.args.ledger.kinds
