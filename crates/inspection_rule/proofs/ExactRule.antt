-- Laws of the definitions of specs/ExactRule.antt.
use Rattle.std.specs.Prelude.{ℕ, ◌+◌, ◌*◌, ◌/◌, ◌%◌, ◌<◌, ◌≤◌, Bool, ◌&&◌, ◌||◌, List, ◌⊎◌, ◌↔◌, ◌≡◌, ℤ, pos, negsuc, length}
use Rattle.std.proofs.Math.Bool.{true, false, not}
use Rattle.std.proofs.Common.{inl, inr, ◌∙◌, div-add-mod'}
use Rattle.std.proofs.Math.Path.{refl, sym, ap}
use Rattle.std.proofs.Math.Nat.{mul-mod_left}
use native.Mathlib.Omega.{arith}
use borrow.Author.Tests.{ltb-false, le-ltb, eqb-true, eq-eqb, not-false}
use Rattle.std.proofs.Math.Dec.{eqb}
use Rattle.std.specs.Int.Signed.{lt_z}
use Rattle.answer.specs.Answer.{number_of, done_with}
use Rattle.bounded.proofs.Boolean.{contrary, lt_or_le, refuted}
use Rattle.bounded.specs.Causes.{NoneHolds, AllRefuse}
use Rattle.bounded.proofs.Causes.{follows, passed}
use Rattle.bounded.proofs.First.{none_holds, none_found}
use Rattle.bounded.proofs.Pair.{no_pair, none_paired}
use Rattle.words.specs.Words.{word_at, natural, is_minus_one}
use Rattle.words.specs.WordOrders.{within, one_word, minus_one_of}
use Rattle.request_table.specs.Buffers.{occupied, need}
use Rattle.request_table.proofs.CheckLaws.{checked}
use Rattle.request_table.specs.Checks.{table_causes, check_of}
use Rattle.request_table.proofs.Colliding.{apart, not_colliding}
use Rattle.request_table.proofs.GoodRows.{fixed_small}
use Rattle.request_table.specs.Limits.{greatest_space}
use Rattle.request_table.specs.Needs.{EndsThere}
use Rattle.request_table.proofs.Needs.{need_bounds, need_is_one}
use Rattle.alignment.proofs.Rounding.{up_something, up_nothing}
use Rattle.request_table.specs.Table.{rows, word, request, fixed, fixed_offset}
use Rattle.request_table.proofs.WellFormed.{passes, passed_is_well_formed}
use Rattle.inspection_rule.proofs.Answers.{proposal_decides}
use Rattle.inspection_rule.specs.Inspect.{proposed, moved, off_grid, proposed_need, proposed_collide, own_causes, inspect_causes, accepted_answer, proposal_of, inspect_of}
use Rattle.inspection_rule.specs.ExactRule.{Acceptable, Aligned, Passed}

-- ---- what the tests say

fixed_says : (t : List ℤ) (r : ℕ) → fixed t r ≡ true → word t r 3 ≡ negsuc 0 → ⊥
unfolding request is_minus_one
fixed_says t r e q = contrary e (ap (λ (z : ℤ). not (is_minus_one z)) q)

-- A row whose offset word is not −1 is fixed.
pub fixed_of : (t : List ℤ) (r : ℕ) → (word t r 3 ≡ negsuc 0 → ⊥) → fixed t r ≡ true
unfolding request
fixed_of t r f = refuted _ (λ e. f (minus_one_of (word t r 3) (not-false _ e)))

-- The offset of a fixed row is what its word reads as.
pub own_offset : (t : List ℤ) (r : ℕ) → fixed_offset t r ≡ natural (word t r 3)
unfolding request
own_offset t r = refl

module _ (g : ℕ) (t o : List ℤ) (r : ℕ) where
  pub unmoved_says : moved t o r ≡ false → fixed_offset t r ≤ greatest_space → (word t r 3 ≡ negsuc 0 → ⊥) → word_at o r ≡ word t r 3
  unfolding moved
  unmoved_says e l f =
      let x : eqb (proposed o r) (fixed_offset t r) ≡ true = not-false _ (rw (fixed_of t r f) at e) in
      let same : proposed o r ≡ natural (word t r 3) = eqb-true _ _ x ∙ own_offset t r in
      let small : natural (word t r 3) ≤ greatest_space = omega (arith, own_offset t r) in
      one_word (word_at o r) (word t r 3) (within (word_at o r) greatest_space (omega arith) (omega arith)).is (within (word t r 3) greatest_space (omega arith) small).is same

  pub unmoved_of : ((word t r 3 ≡ negsuc 0 → ⊥) → word_at o r ≡ word t r 3) → moved t o r ≡ false
  unfolding moved
  unmoved_of f = go (fixed t r) refl
    where
      go : (b : Bool) → fixed t r ≡ b → b && not (eqb (proposed o r) (fixed_offset t r)) ≡ false
      go true e = ap not (eq-eqb _ _ (ap natural (f (fixed_says t r e)) ∙ sym (own_offset t r)))
      go false e = refl

-- a word that is neither negative nor off the grid is a multiple of it, and the other way
aligned_says : (g : ℕ) (z : ℤ) → lt_z z (pos 0) || not (eqb (natural z % g) 0) ≡ false → Aligned g z
unfolding natural
aligned_says g (pos n) e =
    let x : n % g ≡ 0 = eqb-true _ _ (not-false _ (rw (le-ltb n 0 (omega arith)) at e)) in
    record { times = n / g; is = ap pos (omega (arith, div-add-mod' n g)) }
aligned_says g (negsuc n) e = contrary refl e

aligned_of : (g : ℕ) (z : ℤ) → Aligned g z → lt_z z (pos 0) || not (eqb (natural z % g) 0) ≡ false
unfolding natural
aligned_of g z a = rw (a.is, le-ltb (a.times * g) 0 (omega arith)) (ap not (eq-eqb _ _ (mul-mod_left a.times g)))

module _ (g : ℕ) (o : List ℤ) (r : ℕ) where
  pub on_grid_says : off_grid g o r ≡ false → Aligned g (word_at o r)
  unfolding off_grid
  on_grid_says e = aligned_says g (word_at o r) e

  pub on_grid_of : Aligned g (word_at o r) → off_grid g o r ≡ false
  unfolding off_grid
  on_grid_of a = aligned_of g (word_at o r) a

-- ---- the need and the ends

module _ (g : ℕ) (t o : List ℤ) (space : ℕ) (h : 0 < g) where
  fits_says : proposed_need g t o ≤ space → (r : ℕ) → r < rows t → 0 < (request t r).size → proposed o r + occupied g (request t r).size ≤ space
  unfolding proposed_need
  fits_says l r m s = omega (arith, need_bounds g t (proposed o) r m (up_something g (request t r).size h s))

  fits_of : ((r : ℕ) → r < rows t → 0 < (request t r).size → proposed o r + occupied g (request t r).size ≤ space) → proposed_need g t o ≤ space
  unfolding proposed_need
  fits_of f = go (need_is_one g t (proposed o))
    where
      some : (r : ℕ) → 0 < occupied g (request t r).size → (0 < (request t r).size) ⊎ ((request t r).size ≤ 0) → 0 < (request t r).size
      some r l (inl s) = s
      some r l (inr s) = let e : (request t r).size ≡ 0 = omega arith in absurd (omega (arith, up_nothing g, ap (occupied g) e))

      go : (need g t (proposed o) ≡ 0) ⊎ EndsThere g t (proposed o) (need g t (proposed o)) → need g t (proposed o) ≤ space
      go (inl e) = omega arith
      go (inr x) =
          omega (arith, x.there, f x.row x.within (some x.row x.nonempty_row (lt_or_le 0 (request t x.row).size)))

module _ (g : ℕ) (t : List ℤ) (space : ℕ) (o : List ℤ) where
  inspect_refuses : AllRefuse number_of (inspect_causes g t space o)
  inspect_refuses =
      (omega arith, (omega arith, (omega arith, (omega arith, (omega arith, (omega arith, (omega arith, (omega arith, (omega arith, tt)))))))))

  -- Answer 0 says that no cause holds,
  pub passed_says : (inspect_of g t space o).number ≡ 0 → Passed g t space o
  unfolding inspect_of check_of
  passed_says e =
      let n = (passed number_of (inspect_causes g t space o) (accepted_answer g t o) inspect_refuses e).0 in
      let five : NoneHolds (table_causes g t space (length o)) = (n.0, (n.1.0, (n.1.1.0, (n.1.1.1.0, (n.1.1.1.1.0, tt))))) in
      let own = n.1.1.1.1.1 in
      record {
        checks = checked t (length o) g space (ap number_of (follows (table_causes g t space (length o)) (done_with 0) five));
        still = none_holds (moved t o) (rows t) own.0;
        even = none_holds (off_grid g o) (rows t) own.1.0;
        within_space = ltb-false _ _ own.1.1.0;
        clear = no_pair (proposed_collide g t o) (rows t) own.1.1.1.0;
      }

  -- and where none does, the answer is accepted, with the need.
  pub passed_of : Passed g t space o → inspect_of g t space o ≡ done_with (proposed_need g t o)
  unfolding proposal_of
  passed_of p =
      let Moved_none = none_found (moved t o) (rows t) p.still in
      let grid_none = none_found (off_grid g o) (rows t) p.even in
      let pair_none = none_paired (proposed_collide g t o) (rows t) p.clear in
      sym (proposal_decides g t space o p.checks) ∙ follows (own_causes g t space o) (accepted_answer g t o) (Moved_none, (grid_none, (le-ltb _ _ p.within_space, (pair_none, tt))))

  -- What passes is acceptable,
  pub passed_acceptable : 0 < g → Passed g t space o → Acceptable g t space o
  passed_acceptable h p =
      record {
        table = passed_is_well_formed g t space (length o) p.checks;
        room = p.checks.shaped.roomy;
        allowed = p.checks.allowed;
        unmoved = λ r l f. unmoved_says g t o r (p.still r l) (fixed_small g t r (p.checks.good_rows r l) (fixed_of t r f)) f;
        aligned = λ r l. on_grid_says g o r (p.even r l);
        fits = fits_says g t o space h p.within_space;
        apart_rows = λ a b l m. not_colliding _ _ (p.clear a b l m);
      }

  -- and what is acceptable passes.
  pub acceptable_passes : 0 < g → Acceptable g t space o → Passed g t space o
  acceptable_passes h x =
      record {
        checks = passes g t space (length o) x.table x.allowed x.room;
        still = λ r l. unmoved_of g t o r (x.unmoved r l);
        even = λ r l. on_grid_of g o r (x.aligned r l);
        within_space = fits_of g t o space h x.fits;
        clear = λ a b l m. apart _ _ (x.apart_rows a b l m);
      }

  -- The inspector accepts exactly what is acceptable,
  pub accepted_exactly : 0 < g → ((inspect_of g t space o).number ≡ 0) ↔ Acceptable g t space o
  accepted_exactly h = (λ e. passed_acceptable h (passed_says e), λ x. ap number_of (passed_of (acceptable_passes h x)))

  -- and then carries the need.
  pub accepted_needs : (inspect_of g t space o).number ≡ 0 → inspect_of g t space o ≡ done_with (proposed_need g t o)
  accepted_needs e = passed_of (passed_says e)
