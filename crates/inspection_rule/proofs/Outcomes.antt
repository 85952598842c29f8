-- Laws of the definitions of specs/Outcomes.antt.
use Rattle.std.specs.Prelude.{ℕ, ◌<◌, ◌≤◌, Bool, true, List, ◌⊎◌, ◌≡◌, ℤ, length}
use Rattle.std.proofs.Math.Bool.{false}
use Rattle.std.proofs.Common.{inl, inr, sym, ◌∙◌, ltb-true, ltb-false}
use Rattle.std.proofs.Math.Path.{refl}
use Rattle.answer.specs.declared.Answer.{Answer}
use Rattle.answer.specs.Answer.{done_with, refused_at, refused_pair, refused_need, fixed_row_moved, bad_offset, need_exceeds_space, rows_collide}
use Rattle.bounded.proofs.Boolean.{contrary, lt_or_le, refuted}
use Rattle.bounded.specs.First.{holds_below}
use Rattle.bounded.proofs.First.{none_holds}
use Rattle.bounded.specs.Lowest.{Lowest, LeastPair}
use Rattle.bounded.proofs.Lowest.{lowest_of, least_of}
use Rattle.bounded.specs.Pair.{pair_below}
use Rattle.bounded.proofs.Pair.{no_pair}
use Rattle.words.specs.Words.{word_at}
use Rattle.request_table.specs.CheckLaws.{Checked}
use Rattle.request_table.proofs.Colliding.{collides_says, collides_of}
use Rattle.request_table.proofs.GoodRows.{fixed_small}
use Rattle.request_table.specs.Limits.{greatest_space}
use Rattle.request_table.specs.Table.{rows, request, fixed, fixed_offset}
use Rattle.inspection_rule.specs.ExactRule.{Aligned, Acceptable, Passed}
use Rattle.inspection_rule.proofs.ExactRule.{unmoved_says, unmoved_of, on_grid_says, on_grid_of, passed_of, passed_acceptable, fixed_of}
use Rattle.inspection_rule.proofs.Answers.{moved_refused, grid_refused, need_refused, pair_refused, pair_decides, placed_decides, proposal_decides}
use Rattle.inspection_rule.specs.Inspect.{moved, off_grid, proposed_need, proposed_collide, proposal_of, inspect_of}
use Rattle.inspection_rule.specs.Outcomes.{Clash, Moved}

module _ (g : ℕ) (t : List ℤ) (space : ℕ) (o : List ℤ) where
  -- No fixed row was moved.
  abbrev pub NoneMoved : Type 0
  NoneMoved = (r : ℕ) → r < rows t → Moved t o r → ⊥

  -- Every proposed offset is a multiple of the grid from 0 on.
  abbrev pub AllAligned : Type 0
  AllAligned = (r : ℕ) → r < rows t → Aligned g (word_at o r)

  -- What the answer may be.
  pub data Outcome : Type 0 where
    row_moved : (a : ℕ) → Lowest (Moved t o) (rows t) a → inspect_of g t space o ≡ refused_at fixed_row_moved a → Outcome
    off_grid_case : (a : ℕ) → NoneMoved → Lowest (λ r. Aligned g (word_at o r) → ⊥) (rows t) a → inspect_of g t space o ≡ refused_at bad_offset a → Outcome
    too_much : NoneMoved → AllAligned → space < proposed_need g t o → inspect_of g t space o ≡ refused_need need_exceeds_space (proposed_need g t o) → Outcome
    rows_clash : (a b : ℕ) → NoneMoved → AllAligned → proposed_need g t o ≤ space → LeastPair (Clash g t o) a b
        → inspect_of g t space o ≡ refused_pair rows_collide a b → Outcome
    accepted : Acceptable g t space o → inspect_of g t space o ≡ done_with (proposed_need g t o) → Outcome

  -- ---- what the tests say

  moved_says : (r : ℕ) → moved t o r ≡ true → Moved t o r
  moved_says r e =
      record {
        is_fixed = λ q. contrary e (unmoved_of g t o r (λ f. absurd (f q)));
        elsewhere = λ q. contrary e (unmoved_of g t o r (λ f. q));
      }

  moved_of : (r : ℕ) → (fixed t r ≡ true → fixed_offset t r ≤ greatest_space) → Moved t o r → moved t o r ≡ true
  moved_of r l m = refuted _ (λ e. m.elsewhere (unmoved_says g t o r e (l (fixed_of t r m.is_fixed)) m.is_fixed))

  grid_says : (r : ℕ) → off_grid g o r ≡ true → Aligned g (word_at o r) → ⊥
  grid_says r e a = contrary e (on_grid_of g o r a)

  grid_of : (r : ℕ) → (Aligned g (word_at o r) → ⊥) → off_grid g o r ≡ true
  grid_of r f = refuted _ (λ e. f (on_grid_says g o r e))

  -- ---- the answer

  module _ (h : 0 < g) (c : Checked g t space (length o)) where
    own_bound : (r : ℕ) → r < rows t → fixed t r ≡ true → fixed_offset t r ≤ greatest_space
    own_bound r l f = fixed_small g t r (c.good_rows r l) f

    -- Past the checks 1 to 5 the inspector answers so.
    pub inspect_outcome : Outcome
    unfolding holds_below
    inspect_outcome =
        go (holds_below (moved t o) (rows t)) refl (holds_below (off_grid g o) (rows t)) refl (lt_or_le space (proposed_need g t o))
        (pair_below (proposed_collide g t o) (rows t)) refl
      where
        still : holds_below (moved t o) (rows t) ≡ false → NoneMoved
        still e r l m = contrary (moved_of r (own_bound r l) m) (none_holds (moved t o) (rows t) e r l)

        even : holds_below (off_grid g o) (rows t) ≡ false → AllAligned
        even e r l = on_grid_says g o r (none_holds (off_grid g o) (rows t) e r l)

        first : {x : Answer} → x ≡ proposal_of g t space o → inspect_of g t space o ≡ x
        first e = sym (e ∙ proposal_decides g t space o c)

        go : (b : Bool) → holds_below (moved t o) (rows t) ≡ b → (d : Bool) → holds_below (off_grid g o) (rows t) ≡ d
            → (space < proposed_need g t o) ⊎ (proposed_need g t o ≤ space) → (p : Bool) → pair_below (proposed_collide g t o) (rows t) ≡ p → Outcome
        go true e d f x p q =
            row_moved _ (lowest_of (moved t o) (rows t) (λ r l. moved_says r) (λ r l. moved_of r (own_bound r l)) e) (first (moved_refused g t space o (ltb-true _ _ e)))
        go false e true f x p q =
            off_grid_case _ (still e) (lowest_of (off_grid g o) (rows t) (λ r l. grid_says r) (λ r l. grid_of r) f)
            (first (grid_refused g t space o (ltb-false _ _ e) (ltb-true _ _ f)))
        go false e false f (inl l) p q =
            too_much (still e) (even f) l (first (need_refused g t space o l ∙ placed_decides g t space o (ltb-false _ _ e) (ltb-false _ _ f)))
        go false e false f (inr l) true q =
            rows_clash _ _ (still e) (even f) l
            (least_of (proposed_collide g t o) (rows t) (λ a b m n z. record { rising = m; within = n; collides = collides_says _ _ z }) (λ a b z. (z.rising, z.within, collides_of _ _ z.collides)) q)
            (first (pair_refused g t o q ∙ pair_decides g t space o l ∙ placed_decides g t space o (ltb-false _ _ e) (ltb-false _ _ f)))
        go false e false f (inr l) false q =
            let p : Passed g t space o = record {
              checks = c;
              still = none_holds (moved t o) (rows t) e;
              even = none_holds (off_grid g o) (rows t) f;
              within_space = l;
              clear = no_pair (proposed_collide g t o) (rows t) q;
            } in
            accepted (passed_acceptable g t space o h p) (passed_of g t space o p)
