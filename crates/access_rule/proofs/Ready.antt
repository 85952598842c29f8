-- Laws of the definitions of specs/Ready.antt.
use Rattle.std.specs.Prelude.{ℕ, ◌<◌, List, ℤ}
use Rattle.std.proofs.Common.{arith}
use Rattle.access_rule.proofs.Answers.{Done}
use Rattle.access_rule.proofs.GoodAccesses.{good_says}
use Rattle.access_rule.proofs.Inside.{inside}
use Rattle.access_rule.specs.Ready.{Ready}

-- Judged and found good, the script is ready.
pub ready : (g : ℕ) (t : List ℤ) (space : ℕ) (o s : List ℤ) (held room : ℕ) → 0 < g → Done t o s room g space held → Ready o s held room
ready g t space o s held room h d = record {
  within = λ k l. let b = inside g t space o s h d.accepted k (d.all_good k l) in omega (arith, d.held_enough);
  value = λ k l. (good_says t s k (d.all_good k l)).1.value;
  roomy = d.sized.roomy;
}
