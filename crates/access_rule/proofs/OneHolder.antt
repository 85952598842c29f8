-- Laws of the definitions of specs/OneHolder.antt.
use Rattle.std.specs.Prelude.{ℕ, ◌<◌, ◌≤◌, List, ◌⊎◌, ◌≡◌, ℤ}
use Rattle.std.proofs.Common.{inl, inr, arith}
use Rattle.bounded.proofs.Boolean.{lt_or_le}
use Rattle.request_table.specs.Buffers.{buffer_at}
use Rattle.request_table.specs.Colliding.{Colliding}
use Rattle.request_table.proofs.Colliding.{not_colliding}
use Rattle.alignment.proofs.Rounding.{up_holds}
use Rattle.request_table.specs.Table.{request}
use Rattle.inspection_rule.specs.ExactRule.{Passed}
use Rattle.inspection_rule.specs.Inspect.{proposed}
use Rattle.access_rule.specs.OneHolder.{Holds}

module _ (g : ℕ) (t : List ℤ) (space : ℕ) (o : List ℤ) (h : 0 < g) (p : Passed g t space o) where
  both_hold_it : {a b x m : ℕ} → Holds t o a x m → Holds t o b x m → Colliding (buffer_at g t a (proposed o a)) (buffer_at g t b (proposed o b))
  both_hold_it {a} {b} u v =
      let s = up_holds g (request t a).size h in
      let z = up_holds g (request t b).size h in
      record {
        a_nonempty = omega (arith, u.from, u.below);
        b_nonempty = omega (arith, v.from, v.below);
        a_begun = omega (arith, u.begun, v.lasting);
        b_begun = omega (arith, v.begun, u.lasting);
        a_below = omega (arith, u.from, v.below);
        b_below = omega (arith, v.from, u.below);
      }

  -- Two rows that hold one byte at one moment are one row.
  pub one_holder : {a b x m : ℕ} → Holds t o a x m → Holds t o b x m → a ≡ b
  one_holder {a} {b} u v = go (lt_or_le a b) (lt_or_le b a)
    where
      go : (a < b) ⊎ (b ≤ a) → (b < a) ⊎ (a ≤ b) → a ≡ b
      go (inl l) y = absurd (not_colliding _ _ (p.clear a b l v.within) (both_hold_it u v))
      go (inr l) (inl m) = absurd (not_colliding _ _ (p.clear b a m u.within) (both_hold_it v u))
      go (inr l) (inr m) = omega arith
