-- `alignment::round_down` meets its contract.
use Rattle.std.proofs.Common.{refl, arith}
use Rattle.alignment.specs.Rounding.{rounded_down}
use Rattle.alignment.proofs.Masks.{down_by_bits}
use Rattle.alignment.proofs.NoGrid.{down_to_none}
use Rattle.alignment.proofs.round_down.Goals as goal

pub returns-in-16 : goal.returns-in-16
returns-in-16 c = rw c.in-16.is (down_by_bits 28 4 c.args.number (omega arith))

pub returns-in-0 : goal.returns-in-0
returns-in-0 c = let a = c.args in down_to_none a.grid a.number c.in-0.is

pub returns-in_default : goal.returns-in_default
unfolding rounded_down
returns-in_default c = refl
