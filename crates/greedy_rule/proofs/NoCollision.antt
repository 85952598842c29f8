-- Law: where no two fixed rows collide, no two rows of the greedy plan do.
use Rattle.std.specs.Prelude.{ℕ, ◌<◌, Bool, true, false, List, ◌≡◌, refl, ℤ}
use Rattle.std.proofs.Common.{⊎_elim, sym, ◌∙◌, ap, subst, arith}
use Rattle.bounded.proofs.Boolean.{lt_or_le}
use Rattle.request_table.specs.Buffers.{buffer_at}
use Rattle.request_table.specs.Colliding.{Colliding}
use Rattle.request_table.specs.Table.{rows, fixed, fixed_offset}
use Rattle.greedy_rule.specs.Greedy.{greedy_plan}
use Rattle.greedy_rule.proofs.GreedyOrder.{position_listed, fixed_before_rest, before_says}
use Rattle.greedy_rule.specs.GreedyOrder.{position, row_at}
use Rattle.greedy_rule.proofs.PlanByPosition.{fixed_rows_stay}
use Rattle.greedy_rule.proofs.LowestPlace.{rest_takes_lowest}

module _ (g : ℕ) (t : List ℤ) where
  -- No two fixed rows collide.
  abbrev pub FixedRowsApart : Type 0
  FixedRowsApart =
      (a b : ℕ) → a < b → b < rows t → fixed t a ≡ true → fixed t b ≡ true
      → Colliding (buffer_at g t a (fixed_offset t a)) (buffer_at g t b (fixed_offset t b)) → ⊥

  turned : (a b m n : ℕ) → Colliding (buffer_at g t a m) (buffer_at g t b n) → Colliding (buffer_at g t b n) (buffer_at g t a m)
  turned a b m n c = omega arith

  fixed_apart : FixedRowsApart → (a b : ℕ) → a < rows t → b < rows t → (a ≡ b → ⊥) → fixed t a ≡ true → fixed t b ≡ true
      → Colliding (buffer_at g t a (fixed_offset t a)) (buffer_at g t b (fixed_offset t b)) → ⊥
  fixed_apart f a b l m d p q c =
      ⊎_elim (λ h. f a b h m p q c)
      (λ h. f b a (⊎_elim (λ x. x) (λ x. absurd (d (omega arith))) (lt_or_le b a)) l q p (turned a b _ _ c))
      (lt_or_le a b)

  earlier_apart : FixedRowsApart → (a b : ℕ) → a < rows t → b < rows t → position g t a < position g t b
      → Colliding (buffer_at g t b (greedy_plan g t b)) (buffer_at g t a (greedy_plan g t a)) → ⊥
  earlier_apart f a b l m p = go (fixed t b) refl (fixed t a) refl
    where
      go : (y : Bool) → fixed t b ≡ y → (x : Bool) → fixed t a ≡ x → Colliding (buffer_at g t b (greedy_plan g t b)) (buffer_at g t a (greedy_plan g t a)) → ⊥
      go false e x d c = (rest_takes_lowest g t b m e).clear a l (before_says g t a b l m e p) c
      go true e true d c =
          fixed_apart f b a m l (λ q. let z = ap (position g t) q in omega arith) e d
          (subst (λ (o : ℕ). Colliding (buffer_at g t b o) (buffer_at g t a (fixed_offset t a))) (fixed_rows_stay g t b m e)
          (subst (λ (o : ℕ). Colliding (buffer_at g t b (greedy_plan g t b)) (buffer_at g t a o)) (fixed_rows_stay g t a l d) c))
      go true e false d c = let z = fixed_before_rest g t b a m l e d in omega arith

  -- No byte of one row lies in another that is alive at one moment with it.
  pub no_rows_collide : FixedRowsApart → (a b : ℕ) → a < rows t → b < rows t → (a ≡ b → ⊥)
      → Colliding (buffer_at g t a (greedy_plan g t a)) (buffer_at g t b (greedy_plan g t b)) → ⊥
  no_rows_collide f a b l m d c =
      ⊎_elim (λ h. earlier_apart f a b l m h (turned a b _ _ c))
      (λ h. earlier_apart f b a m l (⊎_elim (λ x. x) (λ x. absurd (d (one_place (omega arith)))) (lt_or_le (position g t b) (position g t a))) c)
      (lt_or_le (position g t a) (position g t b))
    where
      one_place : position g t a ≡ position g t b → a ≡ b
      one_place e = sym (position_listed g t a l).1 ∙ ap (row_at g t) e ∙ (position_listed g t b m).1
