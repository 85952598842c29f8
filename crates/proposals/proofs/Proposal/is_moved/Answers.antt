-- `proposals::Proposal::is_moved` meets its contract: a fixed row by its offset, any other never.
use Rattle.std.proofs.Common.{sym, ◌∙◌, ap}
use Rattle.std.specs.Prelude.{not, eqb}
use Rattle.std.proofs.Math.Path.{ap₂}
use Rattle.inspection_rule.specs.Inspect.{moved}
use Rattle.request_table.specs.declared.Request.{Request}
use Rattle.request_table.proofs.GoodRows.{has_says, none_says}
use Rattle.proposals.proofs.Proposal.is_moved.Goals as goal

pub returns-in-Some : goal.returns-in-Some
unfolding moved
returns-in-Some c =
    let t = c.args.self.now.table.words.now in
    let own = has_says t c.args.row.0 c.in-Some.own (ap (λ (x : Request). x.offset) (sym c.request-request.ensures) ∙ c.in-Some.is) in
    c.ne.ensures ∙ rw own.0 (ap₂ (λ p q. not (eqb p q)) c.offset.ensures.offset (ap (λ o. o.0) own.1))

pub returns-in-None : goal.returns-in-None
unfolding moved
returns-in-None c =
    let t = c.args.self.now.table.words.now in
    rw (none_says t c.args.row.0 (ap (λ (x : Request). x.offset) (sym c.request-request.ensures) ∙ c.in-None.is))
