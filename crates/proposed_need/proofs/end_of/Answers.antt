-- `proposed_need::end_of` meets its contract.
use native.Mathlib.Omega.{arith}
use Rattle.alignment.proofs.Rounding.{up_most}
use Rattle.proposed_need.proofs.end_of.Goals as goal

pub overflow_add-result : goal.overflow_add-result
overflow_add-result c = omega (arith, c.offset-start.ensures.small, c.round_up-length.ensures, up_most c.args.proposal.now.table.grid c.request-request.result.size)
