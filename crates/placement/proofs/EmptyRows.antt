-- Law: "An empty row takes 0 and hinders nobody": its lowest offset is 0, and leaving it out of an order changes no other row's offset.
use Prim.Native.Nat.{ℕ, zero, suc, ◌+◌, ◌≤◌}
use Rattle.std.specs.Prelude.{Bool, ◌&&◌, List, ◌∷◌, ◌++◌, ◌⊎◌, ◌≡◌, ℤ, get_or}
use Rattle.std.proofs.Math.Bool.{true, false, not, and-false}
use Rattle.std.proofs.Common.{inl, inr, ◌∙◌, length-append, get_or-append-add}
use Rattle.std.proofs.Math.Path.{refl, sym, ap, ap₂, subst}
use Rattle.std.proofs.Math.Nat.{add-zero}
use native.Mathlib.Omega.{arith}
use Rattle.std.proofs.Math.ListN.{length, get_or-append}
use Rattle.std.proofs.Math.Seq.{get_or-append_seam}
use Rattle.bounded.proofs.Boolean.{same_or_not}
use Rattle.bounded.proofs.First.{one_least, holds_same, none_found}
use Rattle.request_table.specs.Buffers.{buffer_at, collides}
use Rattle.request_table.proofs.Colliding.{apart, collides_either}
use Rattle.alignment.proofs.Rounding.{up_nothing}
use Rattle.request_table.specs.Table.{rows, request, fixed}
use Rattle.placement.specs.Placing.{Placing, put, blocks, free, lowest, offset_for, placing, place}
use Rattle.placement.proofs.Put.{put_there, put_elsewhere, placed_there, placed_elsewhere}
use Rattle.placement.proofs.LowestFree.{lowest_is}

-- Two placings that differ at most in row r.
record Alike (r : ℕ) (s s' : Placing) : Type 0 where
  placed : (b : ℕ) → (b ≡ r → ⊥) → s.placed b ≡ s'.placed b
  offset : (b : ℕ) → (b ≡ r → ⊥) → s.offset b ≡ s'.offset b

module _ (g : ℕ) (t : List ℤ) (r : ℕ) (e : (request t r).size ≡ 0) where
  -- An empty row collides with nothing, wherever it stands.
  empty_apart : (q o p : ℕ) → collides (buffer_at g t q o) (buffer_at g t r p) ≡ false
  empty_apart q o p = apart _ _ (λ c. let z = up_nothing g in let y = rw e at c.b_nonempty in omega arith)

  free_alike : (s s' : Placing) → Alike r s s' → (q o : ℕ) → free g t s q o ≡ free g t s' q o
  unfolding free
  free_alike s s' a q o = ap not (holds_same (blocks g t s q o) (blocks g t s' q o) (rows t) (λ b l. go b (same_or_not b r)))
    where
      go : (b : ℕ) → (b ≡ r) ⊎ (b ≡ r → ⊥) → blocks g t s q o b ≡ blocks g t s' q o b
      go b (inl h) = none s b h ∙ sym (none s' b h)
        where
          none : (s : Placing) (b : ℕ) → b ≡ r → blocks g t s q o b ≡ false
          none s b h = rw (h, empty_apart q o (s.offset r)) (and-false (s.placed r))
      go b (inr d) = ap₂ (λ (x : Bool) (y : ℕ). x && collides (buffer_at g t q o) (buffer_at g t b y)) (a.placed b d) (a.offset b d)

  lowest_alike : (s s' : Placing) → Alike r s s' → (q : ℕ) → lowest g t s q ≡ lowest g t s' q
  lowest_alike s s' a q =
      let x = lowest_is g t s q in
      one_least (free g t s' q) (lowest g t s q) (lowest g t s' q)
      (record { passes = sym (free_alike s s' a q _) ∙ x.passes; below = λ k l. sym (free_alike s s' a q k) ∙ x.below k l })
      (lowest_is g t s' q)

  -- Wherever an empty row is put, every row's lowest offset stays as it was: it hinders nobody.
  pub empty_hinders_nobody : (s : Placing) (o q : ℕ) → lowest g t (put s r o) q ≡ lowest g t s q
  empty_hinders_nobody s o q = lowest_alike (put s r o) s (record { placed = placed_elsewhere s r o; offset = put_elsewhere s r o }) q

  takes_alike : (s s' : Placing) → Alike r s s' → (q : ℕ) → offset_for g t s q ≡ offset_for g t s' q
  unfolding offset_for
  takes_alike s s' a q = go (fixed t q) refl
    where
      go : (b : Bool) → fixed t q ≡ b → offset_for g t s q ≡ offset_for g t s' q
      go true f = rw (f, offset_for)
      go false f = rw (f, offset_for) (lowest_alike s s' a q)

  put_alike : (s s' : Placing) → Alike r s s' → (q o o' : ℕ) → o ≡ o' → Alike r (put s q o) (put s' q o')
  put_alike s s' a q o o' h = record { placed = λ b d. on b d (same_or_not b q); offset = λ b d. at b d (same_or_not b q) }
    where
      on : (b : ℕ) → (b ≡ r → ⊥) → (b ≡ q) ⊎ (b ≡ q → ⊥) → (put s q o).placed b ≡ (put s' q o').placed b
      on b d (inl k) = placed_there s q o b k ∙ sym (placed_there s' q o' b k)
      on b d (inr k) = placed_elsewhere s q o b k ∙ a.placed b d ∙ sym (placed_elsewhere s' q o' b k)

      at : (b : ℕ) → (b ≡ r → ⊥) → (b ≡ q) ⊎ (b ≡ q → ⊥) → (put s q o).offset b ≡ (put s' q o').offset b
      at b d (inl k) = put_there s q o b k ∙ h ∙ sym (put_there s' q o' b k)
      at b d (inr k) = put_elsewhere s q o b k ∙ a.offset b d ∙ sym (put_elsewhere s' q o' b k)

  step_alike : (order order' : List ℕ) (m n q : ℕ) → get_or order m 0 ≡ q → get_or order' n 0 ≡ q → Alike r (placing g t order m) (placing g t order' n)
      → Alike r (placing g t order (suc m)) (placing g t order' (suc n))
  unfolding placing
  step_alike order order' m n q p p' a =
      rw (p, p') (put_alike (placing g t order m) (placing g t order' n) a q _ _ (takes_alike (placing g t order m) (placing g t order' n) a q))

  -- ---- the row left out of an order

  module _ (xs ys : List ℕ) where
    same_start : (k : ℕ) → k ≤ length xs → placing g t (xs ++ (r ∷ ys)) k ≡ placing g t (xs ++ ys) k
    unfolding placing
    same_start zero h = refl
    same_start (suc k) h =
        let a = get_or-append xs (r ∷ ys) 0 k (omega arith) in
        let b = get_or-append xs ys 0 k (omega arith) in
        rw (a, b, same_start k (omega arith))

    same_rest : (k : ℕ) → k ≤ length ys → Alike r (placing g t (xs ++ (r ∷ ys)) (length xs + suc k)) (placing g t (xs ++ ys) (length xs + k))
    unfolding placing
    same_rest zero h =
        let q : length xs + 1 ≡ suc (length xs) = omega arith in
        let s : Placing = placing g t (xs ++ ys) (length xs) in
        rw (q, add-zero, same_start (length xs) (omega arith), get_or-append_seam xs r ys 0)
        (record { placed = placed_elsewhere s r (offset_for g t s r); offset = put_elsewhere s r (offset_for g t s r) })
    same_rest (suc k) h =
        let a : length xs + suc (suc k) ≡ suc (length xs + suc k) = omega arith in
        let b : length xs + suc k ≡ suc (length xs + k) = omega arith in
        subst (λ (m : ℕ). Alike r (placing g t (xs ++ (r ∷ ys)) m) (placing g t (xs ++ ys) (length xs + suc k))) (sym a)
        (subst (λ (m : ℕ). Alike r (placing g t (xs ++ (r ∷ ys)) (suc (length xs + suc k))) (placing g t (xs ++ ys) m)) (sym b)
        (step_alike (xs ++ (r ∷ ys)) (xs ++ ys) (length xs + suc k) (length xs + k) (get_or ys k 0)
        (get_or-append-add xs (r ∷ ys) (suc k) 0) (get_or-append-add xs ys k 0) (same_rest k (omega arith))))

    -- Leaving an empty row out of an order changes no other row's offset.
    pub left_out : (q : ℕ) → (q ≡ r → ⊥) → place g t (xs ++ (r ∷ ys)) q ≡ place g t (xs ++ ys) q
    unfolding place
    left_out q d =
        ap (λ (m : ℕ). (placing g t (xs ++ (r ∷ ys)) m).offset q) (length-append xs (r ∷ ys))
        ∙ (same_rest (length ys) (omega arith)).offset q d
        ∙ sym (ap (λ (m : ℕ). (placing g t (xs ++ ys) m).offset q) (length-append xs ys))

  -- An unfixed empty row takes offset 0, whatever is placed.
  pub empty_lowest : (s : Placing) → lowest g t s r ≡ 0
  unfolding free
  empty_lowest s =
      one_least (free g t s r) (lowest g t s r) 0 (lowest_is g t s r) (record { passes = free-there; below = λ k l. absurd (omega arith) })
    where
      free-there : free g t s r 0 ≡ true
      free-there = ap not (none_found (blocks g t s r 0) (rows t) (λ b l. ap (λ (x : Bool). s.placed b && x) (sym (collides_either (buffer_at g t b (s.offset b)) (buffer_at g t r 0)) ∙ empty_apart b (s.offset b) 0) ∙ and-false (s.placed b)))
