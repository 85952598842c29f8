-- `alignment::bytes_lost` meets its contract.
use Rattle.std.proofs.Common.{refl}
use Rattle.alignment.specs.Alignments.{loss}
use Rattle.alignment.proofs.Masks.{loss_by_bits}
use Rattle.alignment.proofs.NoGrid.{none_lost}
use Rattle.alignment.proofs.bytes_lost.Goals as goal

pub returns-in-16 : goal.returns-in-16
returns-in-16 c = rw c.in-16.is (loss_by_bits 60 4 _ c.args.start c.wrapping_neg.ensures)

pub returns-in-0 : goal.returns-in-0
returns-in-0 c = let a = c.args in none_lost a.grid a.start c.in-0.is

pub returns-in_default : goal.returns-in_default
unfolding loss
returns-in_default c = refl
