-- Laws of the definitions of specs/LowestFree.antt.
use Prim.Native.Nat.{ℕ, zero, suc, ◌<◌, ◌≤◌}
use Rattle.std.specs.Prelude.{Bool, ◌&&◌, List, ◌⊎◌, ◌≡◌, ℤ}
use Rattle.std.proofs.Math.Bool.{true, false}
use Rattle.std.proofs.Common.{inl, inr, arith}
use Rattle.std.proofs.Math.Path.{refl}
use Rattle.std.proofs.lemmas.Bool.{not-true, not-false}
use Rattle.bounded.proofs.Boolean.{both, both_hold, contrary, lt_or_le}
use Rattle.bounded.specs.First.{first_in, IsLeast}
use Rattle.bounded.proofs.First.{least_is, none_holds, none_found, found}
use Rattle.bounded.proofs.Greatest.{greatest_bound}
use Rattle.request_table.specs.Buffers.{buffer_at, collides, end, end_or_zero}
use Rattle.request_table.specs.Colliding.{Colliding}
use Rattle.request_table.proofs.Colliding.{collides_says, collides_of, apart}
use Rattle.request_table.proofs.Needs.{end_counts}
use Rattle.request_table.specs.Table.{rows}
use Rattle.placement.specs.Placing.{Placing, blocks, free, top, lowest}
use Rattle.placement.specs.LowestFree.{Blocker, LowestFree}

module _ (g : ℕ) (t : List ℤ) (s : Placing) (r : ℕ) where
  -- A placed row that is nonempty ends at the top or below.
  pub top_bounds : (b : ℕ) → b < rows t → s.placed b ≡ true → 0 < (buffer_at g t b (s.offset b)).length → end (buffer_at g t b (s.offset b)) ≤ top g t s
  unfolding top
  top_bounds b l p h =
      let x = greatest_bound (λ i. elim (s.placed i) [ true ↦ end_or_zero (buffer_at g t i (s.offset i)) | false ↦ 0 ]) (rows t) b l in
      let y = rw p at x in
      omega (arith, end_counts (buffer_at g t b (s.offset b)) h)

  -- At the top the row is free.
  pub top_free : free g t s r (top g t s) ≡ true
  unfolding free
  top_free = rw (none_found (blocks g t s r (top g t s)) (rows t) (λ b l. go b l (s.placed b) refl))
    where
      go : (b : ℕ) → b < rows t → (x : Bool) → s.placed b ≡ x → x && collides (buffer_at g t r (top g t s)) (buffer_at g t b (s.offset b)) ≡ false
      go b l true p = apart _ _ (λ c. let h = top_bounds b l p c.b_nonempty in omega (arith, c.a_below))
      go b l false p = refl

  -- The lowest offset is the least at which the row is free.
  pub lowest_is : IsLeast (free g t s r) (lowest g t s r)
  unfolding lowest
  lowest_is = least_is (free g t s r) (top g t s) top_free

  -- Free means that no placed row collides with it,
  pub free_says : (o : ℕ) → free g t s r o ≡ true → (b : ℕ) → b < rows t → s.placed b ≡ true → Colliding (buffer_at g t r o) (buffer_at g t b (s.offset b)) → ⊥
  unfolding free
  free_says o e b l p c =
      contrary (both_hold (s.placed b) _ p (collides_of _ _ c)) (none_holds (blocks g t s r o) (rows t) (not-true _ e) b l)

  -- and not free, that one does.
  pub not_free_says : (o : ℕ) → free g t s r o ≡ false → Blocker g t s r o
  unfolding free
  not_free_says o e =
      let x = found (blocks g t s r o) (rows t) (not-false _ e) in
      let b : ℕ = first_in (blocks g t s r o) 0 (rows t) in
      let y = both (s.placed b) _ x.1 in
      record { row = b; within = x.0; placed = y.0; collides = collides_says _ _ y.1 }

  -- Document 01: "Each of these takes the lowest offset, 0 or above, at which it collides with no row already placed."
  pub lowest_free : LowestFree g t s r (lowest g t s r)
  lowest_free = record {
    clear = free_says (lowest g t s r) lowest_is.passes;
    blocked = λ q l. not_free_says q (lowest_is.below q l);
  }

  -- A placed row that ends at an offset.
  pub record EndsAt (o : ℕ) : Type 0 where
    pub row : ℕ
    pub within : row < rows t
    pub placed : s.placed row ≡ true
    pub there : end (buffer_at g t row (s.offset row)) ≡ o

  -- The lowest offset is 0 or the end of a placed row.
  pub lowest_is_an_end : (lowest g t s r ≡ 0) ⊎ EndsAt (lowest g t s r)
  lowest_is_an_end = go (lowest g t s r) lowest_free
    where
      go : (o : ℕ) → LowestFree g t s r o → (o ≡ 0) ⊎ EndsAt o
      go zero f = inl refl
      go (suc q) f =
          let b = f.blocked q (omega arith) in
          inr (record { row = b.row; within = b.within; placed = b.placed; there = ends b (lt_or_le (suc q) (end (buffer_at g t b.row (s.offset b.row)))) })
        where
          ends : (b : Blocker g t s r q) → (suc q < end (buffer_at g t b.row (s.offset b.row))) ⊎ (end (buffer_at g t b.row (s.offset b.row)) ≤ suc q)
              → end (buffer_at g t b.row (s.offset b.row)) ≡ suc q
          ends b (inl l) = let c = b.collides in absurd (f.clear b.row b.within b.placed (record {
            a_nonempty = c.a_nonempty;
            b_nonempty = c.b_nonempty;
            a_begun = c.a_begun;
            b_begun = c.b_begun;
            a_below = l;
            b_below = omega (arith, c.b_below);
          }))
          ends b (inr l) = let c = b.collides in omega (arith, c.a_below)
