-- The test of the third word, as the code makes it in 64 bits, where a signed word and a count are two numbers of one type.
use Rattle.std.specs.Prelude.{ℕ, suc, ◌-◌, ◌<◌, ◌^◌, eqb, ◌≡◌, refl, ℤ, pos, negsuc}
use Rattle.std.proofs.Common.{arith, ne_eqb}
use Rattle.std.specs.Int.Signed.{mag}
use mir.Syntax.{w64}
use mir.Val.{of_z}
use Rattle.offline_rule.specs.OfflinePlan.{is_number}

-- Those that have the same bits there are the same number.
pub by_number : (z : ℤ) (n : ℕ) → mag z < 2 ^ 31 → n < 2 ^ 32 → eqb (of_z w64 z) (of_z w64 (pos n)) ≡ is_number z n
unfolding is_number
by_number (pos m) n l h = refl
by_number (negsuc m) n l h = ne_eqb (2 ^ 64 - suc m) n (omega arith)
