-- `alignment::is_allowed` meets its contract.
use Rattle.alignment.proofs.Bits.{allowed_by_bits}
use Rattle.alignment.proofs.is_allowed.Goals as goal

pub returns : goal.returns
returns c = rw c.is_power_of_two.ensures (allowed_by_bits c.args.grid c.args.alignment)
