-- Laws of the definitions of specs/Demand2.antt.
use Rattle.std.specs.Prelude.{ℕ, ◌<◌, ◌≤◌, List, ◌⊎◌, ◌↔◌, ◌≡◌, refl, ℤ}
use Rattle.std.proofs.Common.{inl, inr, ap, arith}
use Rattle.answer.specs.Answer.{number_of, done, fixed_rows_collide, need_exceeds_space, done_with, refused_need}
use Rattle.request_table.specs.Limits.{greatest_space}
use Rattle.request_table.specs.Table.{rows}
use Rattle.request_table.specs.WellFormed.{WellFormed}
use Rattle.request_table.proofs.WellFormed.{passes}
use Rattle.greedy_rule.specs.Answers.{LeastClash}
use Rattle.greedy_rule.proofs.Answers.{Outcome, clash, too_much, planned, refused_only_as_6_or_7}
use Rattle.greedy_rule.proofs.NoCollision.{FixedRowsApart}
use Rattle.greedy_rule.specs.Plan.{greedy_need, plan_of}
use Rattle.greedy_rule.specs.Demand2.{SomeClash}

module _ (g : ℕ) (t : List ℤ) (space room : ℕ) (w : WellFormed g t) (allowed : space ≤ greatest_space) (roomy : rows t ≤ room) where
  outcome : Outcome g t space room
  outcome = refused_only_as_6_or_7 g t space room (passes g t space room w allowed roomy)

  no_clash_then : FixedRowsApart g t → SomeClash g t → ⊥
  no_clash_then f c = let k = c.clashes in f c.a c.b k.rising k.within k.a_fixed k.b_fixed k.collides

  -- The answer is 0, 6 or 7.
  pub only_0_6_7 : ((plan_of g t space room).number ≡ done) ⊎ (((plan_of g t space room).number ≡ fixed_rows_collide) ⊎ ((plan_of g t space room).number ≡ need_exceeds_space))
  only_0_6_7 = go outcome
    where
      go : Outcome g t space room → ((plan_of g t space room).number ≡ done) ⊎ (((plan_of g t space room).number ≡ fixed_rows_collide) ⊎ ((plan_of g t space room).number ≡ need_exceeds_space))
      go (clash a b l e) = inr (inl (ap number_of e))
      go (too_much f l e) = inr (inr (ap number_of e))
      go (planned f l e) = inl (ap number_of e)

  -- 6 exactly if two fixed rows collide,
  pub six_exactly : ((plan_of g t space room).number ≡ fixed_rows_collide) ↔ SomeClash g t
  six_exactly = (there outcome, back outcome)
    where
      there : Outcome g t space room → (plan_of g t space room).number ≡ fixed_rows_collide → SomeClash g t
      there (clash a b l e) n = record { a = a; b = b; clashes = l.here }
      there (too_much f l e) n = absurd (omega (arith, ap number_of e))
      there (planned f l e) n = absurd (omega (arith, ap number_of e))

      back : Outcome g t space room → SomeClash g t → (plan_of g t space room).number ≡ fixed_rows_collide
      back (clash a b l e) c = ap number_of e
      back (too_much f l e) c = absurd (no_clash_then f c)
      back (planned f l e) c = absurd (no_clash_then f c)

  -- and then it names the least pair and carries no need.
  pub six_names_the_least : (plan_of g t space room).number ≡ fixed_rows_collide
      → LeastClash g t (plan_of g t space room).a (plan_of g t space room).b × ((plan_of g t space room).need ≡ 0)
  six_names_the_least n = go outcome
    where
      go : Outcome g t space room → LeastClash g t (plan_of g t space room).a (plan_of g t space room).b × ((plan_of g t space room).need ≡ 0)
      go (clash a b l e) = rw e (l, refl)
      go (too_much f l e) = absurd (omega (arith, ap number_of e))
      go (planned f l e) = absurd (omega (arith, ap number_of e))

  -- 7 exactly if no two do and the plan's need exceeds the space; the need is carried.
  pub seven_exactly : (plan_of g t space room ≡ refused_need need_exceeds_space (greedy_need g t)) ↔ (FixedRowsApart g t × (space < greedy_need g t))
  seven_exactly = (there outcome, back outcome)
    where
      there : Outcome g t space room → plan_of g t space room ≡ refused_need need_exceeds_space (greedy_need g t) → FixedRowsApart g t × (space < greedy_need g t)
      there (clash a b l e) n = absurd (omega (arith, ap number_of e, ap number_of n))
      there (too_much f l e) n = (f, l)
      there (planned f l e) n = absurd (omega (arith, ap number_of e, ap number_of n))

      back : Outcome g t space room → FixedRowsApart g t × (space < greedy_need g t) → plan_of g t space room ≡ refused_need need_exceeds_space (greedy_need g t)
      back (clash a b l e) c = absurd (no_clash_then c.0 (record { a = a; b = b; clashes = l.here }))
      back (too_much f l e) c = e
      back (planned f l e) c = absurd (omega (arith, c.1))

  -- Done, with the need, exactly if no two fixed rows collide and the need is within the space.
  pub done_exactly : (plan_of g t space room ≡ done_with (greedy_need g t)) ↔ (FixedRowsApart g t × (greedy_need g t ≤ space))
  done_exactly = (there outcome, back outcome)
    where
      there : Outcome g t space room → plan_of g t space room ≡ done_with (greedy_need g t) → FixedRowsApart g t × (greedy_need g t ≤ space)
      there (clash a b l e) n = absurd (omega (arith, ap number_of e, ap number_of n))
      there (too_much f l e) n = absurd (omega (arith, ap number_of e, ap number_of n))
      there (planned f l e) n = (f, l)

      back : Outcome g t space room → FixedRowsApart g t × (greedy_need g t ≤ space) → plan_of g t space room ≡ done_with (greedy_need g t)
      back (clash a b l e) c = absurd (no_clash_then c.0 (record { a = a; b = b; clashes = l.here }))
      back (too_much f l e) c = absurd (omega (arith, c.1))
      back (planned f l e) c = e
