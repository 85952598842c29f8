-- `proposed_need::need_of` meets its contract: the greatest of the ends that the closure works out.
use Rattle.std.specs.Prelude.{ℕ, refl}
use Rattle.std.proofs.Common.{rules}
use Rattle.std.proofs.lemmas.Iterator.{YieldsList-from_map}
use Rattle.std.proofs.lemmas.Iterator.Consumers.{YieldsList-at}
use Rattle.bounded.proofs.Chains.{greatest_by_max, indices}
use Rattle.request_table.specs.Buffers.{buffer_at, end_or_zero, need}
use Rattle.request_table.specs.Table.{rows}
use Rattle.inspection_rule.specs.Inspect.{proposed, proposed_need}
use Rattle.proposed_need.proofs.need_of.Goals as goal

pub returns : goal.returns
unfolding proposed_need need
returns c =
    let p = c.args.proposal.now in
    let ends : ℕ → ℕ = λ r. end_or_zero (buffer_at p.table.grid p.table.words.now r (proposed p.offsets.now r)) in
    greatest_by_max ends (rows p.table.words.now) _ _
    (YieldsList-from_map _ ends (YieldsList-at c.map.ensures.source (indices (rows p.table.words.now) refl c.rows.ensures)) c.map.ensures.closure (λ x r q k. search rules))
    c.max.ensures.ran c.unwrap_or.ensures
