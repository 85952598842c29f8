-- `alignment::round_up` meets its contract.
use Rattle.std.proofs.Common.{arith}
use Rattle.alignment.proofs.Masks.{up_by_bits}
use Rattle.alignment.proofs.NoGrid.{up_to_none}
use Rattle.alignment.proofs.Rounding.{up_only}
use Rattle.alignment.proofs.round_up.Goals as goal

pub returns-in-16 : goal.returns-in-16
returns-in-16 c = rw c.in-16.is (up_by_bits 60 4 c.args.number (omega arith))

pub returns-in-0 : goal.returns-in-0
returns-in-0 c = let a = c.args in up_to_none a.grid a.number c.in-0.is

pub returns-in_default : goal.returns-in_default
returns-in_default c = let r = c.next_multiple_of.ensures in up_only _ _ (omega arith) _ r.multiple r.lower_bound r.upper_bound
