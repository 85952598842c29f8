-- Law: in the greedy plan each row keeps the offset that it took at its place in the order, and so fixed rows, empty ones too, have their own.
use Prim.Native.Nat.{ℕ, zero, suc, ◌<◌, ◌≤◌}
use Rattle.std.specs.Prelude.{true, List, ◌⊎◌, ◌≡◌, ℤ}
use Rattle.std.proofs.Common.{inl, inr, ⊎_elim, ◌∙◌, arith}
use Rattle.std.proofs.Math.Path.{refl, sym, ap}
use borrow.Author.Tests.{lt-ltb, le-ltb}
use Rattle.std.proofs.Math.Dec.{ltb}
use Rattle.bounded.proofs.Boolean.{lt_or_le, same_or_not}
use Rattle.request_table.specs.Table.{rows, fixed, fixed_offset}
use Rattle.placement.specs.Placing.{Placing, put, offset_for, placing, place}
use Rattle.placement.proofs.Put.{put_there, put_elsewhere, placed_there, placed_elsewhere}
use Rattle.greedy_rule.specs.Greedy.{fixed_first, greedy_order, greedy_plan}
use Rattle.greedy_rule.proofs.GreedyOrder.{whole_length, position_listed, listed_position}
use Rattle.greedy_rule.specs.GreedyOrder.{position, row_at}

module _ (g : ℕ) (t : List ℤ) where
  -- What is placed once the rows of the first k places are.
  abbrev pub stage : ℕ → Placing
  stage k = placing g t (fixed_first t (greedy_order g t)) k

  -- One place more.
  pub stage_more : (k : ℕ) → stage (suc k) ≡ put (stage k) (row_at g t k) (offset_for g t (stage k) (row_at g t k))
  unfolding placing
  stage_more k = refl

  not_here : (r k : ℕ) → r < rows t → (r ≡ row_at g t k → ⊥) → position g t r ≡ k → ⊥
  not_here r k l d e = d (sym (position_listed g t r l).1 ∙ ap (row_at g t) e)

  -- A row is placed once its place has come.
  pub placed_from : (r : ℕ) → r < rows t → (k : ℕ) → k ≤ rows t → (stage k).placed r ≡ ltb (position g t r) k
  unfolding placing
  placed_from r l zero h = sym (le-ltb (position g t r) 0 (omega arith))
  placed_from r l (suc k) h = go (same_or_not r (row_at g t k)) (placed_from r l k (omega arith))
    where
      go : (r ≡ row_at g t k) ⊎ (r ≡ row_at g t k → ⊥) → (stage k).placed r ≡ ltb (position g t r) k → (stage (suc k)).placed r ≡ ltb (position g t r) (suc k)
      go (inl e) i =
          placed_there (stage k) (row_at g t k) _ r e
          ∙ sym (lt-ltb (position g t r) (suc k) (let q = ap (position g t) e ∙ (listed_position g t k (omega arith)).1 in omega arith))
      go (inr d) i =
          placed_elsewhere (stage k) (row_at g t k) _ r d ∙ i ∙ same (lt_or_le (position g t r) k)
        where
          same : (position g t r < k) ⊎ (k ≤ position g t r) → ltb (position g t r) k ≡ ltb (position g t r) (suc k)
          same (inl x) = lt-ltb (position g t r) k x ∙ sym (lt-ltb (position g t r) (suc k) (omega arith))
          same (inr x) =
              le-ltb (position g t r) k x
              ∙ sym (le-ltb (position g t r) (suc k) (⊎_elim (λ y. y) (λ y. absurd (not_here r k l d (omega arith))) (lt_or_le k (position g t r))))

  -- A placed row keeps the offset that it took.
  pub offset_kept : (r : ℕ) → r < rows t → (k : ℕ) → k ≤ rows t → position g t r < k → (stage k).offset r ≡ offset_for g t (stage (position g t r)) r
  unfolding placing
  offset_kept r l zero h p = absurd (omega arith)
  offset_kept r l (suc k) h p = go (same_or_not r (row_at g t k)) (offset_kept r l k (omega arith))
    where
      go : (r ≡ row_at g t k) ⊎ (r ≡ row_at g t k → ⊥) → (position g t r < k → (stage k).offset r ≡ offset_for g t (stage (position g t r)) r)
          → (stage (suc k)).offset r ≡ offset_for g t (stage (position g t r)) r
      go (inl e) rec =
          let q : k ≡ position g t r = sym (ap (position g t) e ∙ (listed_position g t k (omega arith)).1) in
          put_there (stage k) (row_at g t k) _ r e
          ∙ ap (offset_for g t (stage k)) (sym e)
          ∙ ap (λ (i : ℕ). offset_for g t (stage i) r) q
      go (inr d) rec =
          put_elsewhere (stage k) (row_at g t k) _ r d
          ∙ rec (⊎_elim (λ x. x) (λ x. absurd (not_here r k l d (omega arith))) (lt_or_le (position g t r) k))

  -- The greedy plan is the stage at which every row is placed.
  pub plan_is_stage : (r : ℕ) → greedy_plan g t r ≡ (stage (rows t)).offset r
  unfolding greedy_plan place
  plan_is_stage r = ap (λ (k : ℕ). (stage k).offset r) (whole_length g t)

  -- Each row has the offset that it took at its place.
  pub plan_takes : (r : ℕ) → r < rows t → greedy_plan g t r ≡ offset_for g t (stage (position g t r)) r
  plan_takes r l = plan_is_stage r ∙ offset_kept r l (rows t) (omega arith) (position_listed g t r l).0

  -- A row of a lower place has its offset of the plan by then.
  pub stage_is_plan : (r : ℕ) → r < rows t → (k : ℕ) → k ≤ rows t → position g t r < k → (stage k).offset r ≡ greedy_plan g t r
  stage_is_plan r l k h p = offset_kept r l k h p ∙ sym (plan_takes r l)

  -- Document 01: "Fixed rows take their offsets", empty ones too.
  pub fixed_rows_stay : (r : ℕ) → r < rows t → fixed t r ≡ true → greedy_plan g t r ≡ fixed_offset t r
  unfolding offset_for
  fixed_rows_stay r l e = plan_takes r l ∙ rw (e, offset_for)
