-- Laws of the definitions of specs/Needs.antt.
use Rattle.std.specs.Prelude.{ℕ, ◌+◌, ◌<◌, ◌≤◌, max, Bool, List, ◌⊎◌, ◌≡◌, refl, ℤ}
use Rattle.std.proofs.Math.Bool.{true, false}
use Rattle.std.proofs.Math.Logic.{inl, inr}
use Rattle.std.proofs.Math.Path.{sym, ap}
use Rattle.std.proofs.Common.{◌∙◌, ap₂, arith}
use borrow.Author.Tests.{lt-ltb, ltb-true}
use Rattle.bounded.specs.Greatest.{greatest, Taken}
use Rattle.bounded.proofs.Greatest.{greatest_bound, greatest_is_one, greatest_same, greatest_none, greatest_more}
use Rattle.request_table.specs.Table.{rows}
use Rattle.request_table.specs.Buffers.{buffer_at, end, nonempty, end_or_zero, need}
use Rattle.request_table.specs.declared.Buffer.{Buffer}
use Rattle.request_table.specs.Needs.{EndsThere, Needing}

-- The end of a nonempty buffer is what counts.
pub end_counts : (a : Buffer) → 0 < a.length → end_or_zero a ≡ end a
unfolding end_or_zero
end_counts a h = rw (lt-ltb 0 a.length h, end_or_zero)

-- An empty one counts for nothing.
pub empty_counts : (a : Buffer) → nonempty a ≡ false → end_or_zero a ≡ 0
unfolding end_or_zero
empty_counts a e = rw (e, end_or_zero)

module _ (g : ℕ) (t : List ℤ) (plan : ℕ → ℕ) where
  -- Every nonempty row ends at the need or below.
  pub need_bounds : (r : ℕ) → r < rows t → 0 < (buffer_at g t r (plan r)).length → end (buffer_at g t r (plan r)) ≤ need g t plan
  unfolding need
  need_bounds r l h =
      omega (arith, greatest_bound (λ i. end_or_zero (buffer_at g t i (plan i))) (rows t) r l, end_counts (buffer_at g t r (plan r)) h)

  -- One of them ends there, or the need is 0.
  pub need_is_one : (need g t plan ≡ 0) ⊎ EndsThere g t plan (need g t plan)
  unfolding need
  need_is_one = go (greatest_is_one (λ i. end_or_zero (buffer_at g t i (plan i))) (rows t))
    where
      ends : (r v : ℕ) → r < rows t → (b : Bool) → nonempty (buffer_at g t r (plan r)) ≡ b → end_or_zero (buffer_at g t r (plan r)) ≡ v → (v ≡ 0) ⊎ EndsThere g t plan v
      ends r v l true n e =
          let h : 0 < (buffer_at g t r (plan r)).length = ltb-true _ _ n in
          inr (record { row = r; within = l; nonempty_row = h; there = sym (end_counts (buffer_at g t r (plan r)) h) ∙ e })
      ends r v l false n e = inl (sym e ∙ empty_counts (buffer_at g t r (plan r)) n)

      go : (greatest (λ i. end_or_zero (buffer_at g t i (plan i))) (rows t) ≡ 0) ⊎ Taken (λ i. end_or_zero (buffer_at g t i (plan i))) (rows t) (greatest (λ i. end_or_zero (buffer_at g t i (plan i))) (rows t))
          → (greatest (λ i. end_or_zero (buffer_at g t i (plan i))) (rows t) ≡ 0) ⊎ EndsThere g t plan (greatest (λ i. end_or_zero (buffer_at g t i (plan i))) (rows t))
      go (inl e) = inl e
      go (inr x) = ends x.index _ x.within (nonempty (buffer_at g t x.index (plan x.index))) refl x.value

-- Plans that agree on the table's rows need the same.
pub need_same : (g : ℕ) (t : List ℤ) (plan other : ℕ → ℕ) → ((r : ℕ) → r < rows t → plan r ≡ other r) → need g t plan ≡ need g t other
unfolding need
need_same g t plan other f = greatest_same _ _ (rows t) (λ r l. ap (λ (o : ℕ). end_or_zero (buffer_at g t r o)) (f r l))

-- It starts at row 0, with 0.
pub needing_start : (g : ℕ) (t : List ℤ) (plan : ℕ → ℕ) → Needing g t plan 0 0
needing_start g t plan = record { index = omega arith; is = greatest_none _ }

module _ {g : ℕ} {t : List ℤ} {plan : ℕ → ℕ} {top i : ℕ} (w : Needing g t plan top i) where
  -- One row more.
  pub needing_more : {over top' : ℕ} → i < rows t → over ≡ end_or_zero (buffer_at g t i (plan i)) → top' ≡ max top over → Needing g t plan top' (i + 1)
  needing_more h e q = record { index = omega arith; is = q ∙ ap₂ (λ (x y : ℕ). max x y) w.is e ∙ greatest_more _ i }

  -- Past the last row it is the need.
  pub needing_done : rows t ≤ i → top ≡ need g t plan
  unfolding need
  needing_done h = let e : i ≡ rows t = omega (arith, w.index) in w.is ∙ ap (greatest (λ r. end_or_zero (buffer_at g t r (plan r)))) e
