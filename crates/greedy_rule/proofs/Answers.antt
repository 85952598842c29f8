-- Laws of the definitions of specs/Answers.antt.
use Rattle.std.specs.Prelude.{ℕ, ◌<◌, ◌≤◌, Bool, true, false, ◌&&◌, List, ◌⊎◌, ◌≡◌, ℤ}
use Rattle.std.proofs.Common.{inl, inr, ◌∙◌, ap, arith}
use Rattle.std.proofs.Math.Path.{refl, sym}
use borrow.Author.Tests.{ltb-false, lt-ltb, le-ltb}
use Rattle.answer.specs.Answer.{number_of, done_with, refused_pair, refused_need, fixed_rows_collide, need_exceeds_space}
use Rattle.bounded.proofs.Boolean.{both, both_hold, contrary, lt_or_le}
use Rattle.bounded.specs.Causes.{Gives, NoneHolds, AllRefuse, first_cause}
use Rattle.bounded.proofs.Causes.{given, follows, follows_more, passed, refused_stands}
use Rattle.bounded.proofs.Lowest.{least_of}
use Rattle.bounded.specs.Pair.{pair_below, pair_first, pair_second}
use Rattle.bounded.proofs.Pair.{no_pair, none_paired}
use Rattle.request_table.specs.CheckLaws.{Checked}
use Rattle.request_table.proofs.CheckLaws.{none_refuses, checked}
use Rattle.request_table.specs.Checks.{table_causes, check_of}
use Rattle.request_table.proofs.Colliding.{collides_says, collides_of}
use Rattle.request_table.specs.Table.{rows, fixed}
use Rattle.greedy_rule.proofs.NoCollision.{FixedRowsApart}
use Rattle.greedy_rule.specs.Plan.{fixed_collide, greedy_need, own_causes, plan_causes, done_answer, fit_of, plan_of}
use Rattle.greedy_rule.specs.Answers.{FixedClash, LeastClash}

module _ (g : ℕ) (t : List ℤ) where
  clash_of : (a b : ℕ) → a < b → b < rows t → fixed_collide g t a b ≡ true → FixedClash g t a b
  unfolding fixed_collide
  clash_of a b l m e =
      let x = both (fixed t a && fixed t b) _ e in
      let y = both (fixed t a) (fixed t b) x.0 in
      record { rising = l; within = m; a_fixed = y.0; b_fixed = y.1; collides = collides_says _ _ x.1 }

  clash_says : (a b : ℕ) → FixedClash g t a b → fixed_collide g t a b ≡ true
  unfolding fixed_collide
  clash_says a b c = both_hold (fixed t a && fixed t b) _ (both_hold (fixed t a) (fixed t b) c.a_fixed c.b_fixed) (collides_of _ _ c.collides)

  -- The pair that the search names is the least.
  pub found_clash : pair_below (fixed_collide g t) (rows t) ≡ true → LeastClash g t (pair_first (fixed_collide g t) (rows t)) (pair_second (fixed_collide g t) (rows t))
  found_clash e = least_of (fixed_collide g t) (rows t) clash_of (λ a b c. (c.rising, c.within, clash_says a b c)) e

  -- Where it names none, no two fixed rows collide.
  pub no_clash : pair_below (fixed_collide g t) (rows t) ≡ false → FixedRowsApart g t
  no_clash e a b l m p q c =
      contrary (clash_says a b (record { rising = l; within = m; a_fixed = p; b_fixed = q; collides = c })) (no_pair (fixed_collide g t) (rows t) e a b l m)

  -- ---- the answer, past the checks 1 to 5

  module _ (space : ℕ) where
    -- The need exceeds the space: 7.
    pub fit_refused : space < greedy_need g t → refused_need need_exceeds_space (greedy_need g t) ≡ fit_of g t space
    unfolding fit_of
    fit_refused l = rw (lt-ltb _ _ l, first_cause)

    -- It does not: done.
    pub fit_done : greedy_need g t ≤ space → done_with (greedy_need g t) ≡ fit_of g t space
    unfolding fit_of
    fit_done l = rw (le-ltb _ _ l, first_cause)

    module _ (room : ℕ) where
      -- A refusal of the checks 1 to 5 is the planner's.
      pub check_stands : ((check_of g t space room).number ≡ 0 → ⊥) → check_of g t space room ≡ plan_of g t space room
      unfolding check_of plan_of
      check_stands h = refused_stands number_of (table_causes g t space room) (own_causes g t space) (done_with 0) (done_answer g t) refl h

      -- Past them, two fixed rows that collide are the refusal,
      pub pair_refused : Checked g t space room → pair_below (fixed_collide g t) (rows t) ≡ true
          → refused_pair fixed_rows_collide (pair_first (fixed_collide g t) (rows t)) (pair_second (fixed_collide g t) (rows t)) ≡ plan_of g t space room
      unfolding plan_of
      pair_refused c e =
          let clash = refused_pair fixed_rows_collide (pair_first (fixed_collide g t) (rows t)) (pair_second (fixed_collide g t) (rows t)) in
          let told : Gives (own_causes g t space) (done_answer g t) clash = given e in
          told.is ∙ sym (follows_more (table_causes g t space room) (own_causes g t space) (done_answer g t) (none_refuses t room g space c))

      -- and where there are none, the need decides.
      pub need_decides : Checked g t space room → pair_below (fixed_collide g t) (rows t) ≡ false → fit_of g t space ≡ plan_of g t space room
      unfolding plan_of fit_of
      need_decides c e =
          sym (follows_more (table_causes g t space room) (own_causes g t space) (done_answer g t) (none_refuses t room g space c) ∙ rw (e, first_cause))

      -- What the answer may be.
      pub data Outcome : Type 0 where
        clash : (a b : ℕ) → LeastClash g t a b → plan_of g t space room ≡ refused_pair fixed_rows_collide a b → Outcome
        too_much : FixedRowsApart g t → space < greedy_need g t → plan_of g t space room ≡ refused_need need_exceeds_space (greedy_need g t) → Outcome
        planned : FixedRowsApart g t → greedy_need g t ≤ space → plan_of g t space room ≡ done_with (greedy_need g t) → Outcome

      -- Demand 2: "Given an allowed space and room for the answer, a well-formed request table is refused only if two fixed tensors clash or the
      -- resulting plan exceeds the space." The three cases exclude one another, so each answer is given exactly if its case holds.
      pub refused_only_as_6_or_7 : Checked g t space room → Outcome
      refused_only_as_6_or_7 c = go (pair_below (fixed_collide g t) (rows t)) refl (lt_or_le space (greedy_need g t))
        where
          go : (x : Bool) → pair_below (fixed_collide g t) (rows t) ≡ x → (space < greedy_need g t) ⊎ (greedy_need g t ≤ space) → Outcome
          go true e y = clash _ _ (found_clash e) (sym (pair_refused c e))
          go false e (inl l) = too_much (no_clash e) l (sym (fit_refused l ∙ need_decides c e))
          go false e (inr l) = planned (no_clash e) l (sym (fit_done l ∙ need_decides c e))

      -- ---- done

      plan_refuses : AllRefuse number_of (plan_causes g t space room)
      plan_refuses = (omega arith, (omega arith, (omega arith, (omega arith, (omega arith, (omega arith, (omega arith, tt)))))))

      -- What a done answer says: the checks 1 to 5 pass, no two fixed rows collide, and the need fits.
      pub record Done : Type 0 where
        pub checks : Checked g t space room
        pub apart : FixedRowsApart g t
        pub fits : greedy_need g t ≤ space

      -- The answer is done only then.
      pub done_says : (plan_of g t space room).number ≡ 0 → Done
      unfolding plan_of check_of
      done_says e =
          let n = (passed number_of (plan_causes g t space room) (done_answer g t) plan_refuses e).0 in
          let five : NoneHolds (table_causes g t space room) = (n.0, (n.1.0, (n.1.1.0, (n.1.1.1.0, (n.1.1.1.1.0, tt))))) in
          record {
            checks = checked t room g space (ap number_of (follows (table_causes g t space room) (done_with 0) five));
            apart = no_clash n.1.1.1.1.1.0;
            fits = ltb-false _ _ n.1.1.1.1.1.1.0;
          }

      -- And then it is.
      pub done_of : Done → plan_of g t space room ≡ done_with (greedy_need g t)
      done_of d = sym (fit_done d.fits ∙ need_decides d.checks (none_paired (fixed_collide g t) (rows t) (λ a b l m. go a b l m (fixed_collide g t a b) refl)))
        where
          go : (a b : ℕ) → a < b → b < rows t → (x : Bool) → fixed_collide g t a b ≡ x → x ≡ false
          go a b l m true e = let c = clash_of a b l m e in absurd (d.apart a b l m c.a_fixed c.b_fixed c.collides)
          go a b l m false e = refl
