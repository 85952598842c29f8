-- Law: what is answered for an operator list, and when, in document 01's words: 1, 2 and 3 for the lengths and numbers, 5 with the lowest bad use, 20 with
-- the lowest tensor never named, 21 with the lowest use that reads before it is written; each only where none before it holds; else done, with all zeros.
use Rattle.std.specs.Prelude.{ℕ, ◌*◌, ◌<◌, ◌≤◌, ◌%◌, Bool, not, List, ◌⊎◌, ◌≡◌, ℤ, length}
use Rattle.std.proofs.Math.Bool.{true, false}
use Rattle.std.proofs.Common.{inl, inr, sym, ◌∙◌, arith}
use Rattle.std.proofs.Math.Path.{refl, ap}
use borrow.Author.Tests.{ltb-true, ltb-false, lt-ltb, ne_eqb, eq-eqb, not-true, not-false}
use Rattle.answer.specs.Answer.{number_of, refused, refused_at, done_with, not_whole_rows, too_many, table_too_short, bad_row, tensor_never_named, read_before_written}
use Rattle.bounded.proofs.Boolean.{contrary, lt_or_le, same_or_not, refuted}
use Rattle.bounded.specs.Causes.{first_cause}
use Rattle.bounded.specs.First.{holds_below}
use Rattle.bounded.proofs.First.{found, none_holds}
use Rattle.bounded.specs.Lowest.{Lowest}
use Rattle.bounded.proofs.Lowest.{lowest_of}
use Rattle.lifetime_rule.specs.Answers.{Sized, EachGood}
use Rattle.lifetime_rule.proofs.Answers.{good_of_none, natural_words, limits_say, limits_of, name_refused, read_refused, judged_passed, use_refused, list_stands, judged_decides}
use Rattle.lifetime_rule.specs.GoodUses.{GoodUse, Natural}
use Rattle.lifetime_rule.proofs.GoodUses.{good_says, good_of}
use Rattle.lifetime_rule.specs.Lifetimes.{named, unnamed, too_early}
use Rattle.lifetime_rule.specs.FromUses.{out_of_limits, lifetimes_of}
use Rattle.lifetime_rule.specs.Naming.{Named, TooEarly}
use Rattle.lifetime_rule.proofs.Naming.{named_says, named_of, early_says, early_of}
use Rattle.lifetime_rule.specs.Uses.{greatest_operators, greatest_tensors, greatest_uses, count, bad_use}

module _ (operators tensors : ℕ) (u : List ℤ) (room : ℕ) where
  -- "too many rows, operators or tensors; no operator".
  pub data OutOfLimits : Type 0 where
    many_uses : greatest_uses < count u → OutOfLimits
    many_operators : greatest_operators < operators → OutOfLimits
    many_tensors : greatest_tensors < tensors → OutOfLimits
    no_operator : operators ≡ 0 → OutOfLimits

  -- No operator names the tensor.
  abbrev pub NeverNamed : ℕ → Type 0
  NeverNamed t = (m : ℕ) → m < operators → Named u t m → ⊥

  -- What the answer may be.
  pub data Outcome : Type 0 where
    not_whole : (length u % 3 ≡ 0 → ⊥) → lifetimes_of operators tensors u room ≡ refused not_whole_rows → Outcome
    out_of_limits_case : length u % 3 ≡ 0 → OutOfLimits → lifetimes_of operators tensors u room ≡ refused too_many → Outcome
    too_short : length u % 3 ≡ 0 → (OutOfLimits → ⊥) → room < tensors * 2 → lifetimes_of operators tensors u room ≡ refused table_too_short → Outcome
    bad_use_case : (a : ℕ) → Sized operators tensors u room → Lowest (λ k. GoodUse operators tensors u k → ⊥) (count u) a
        → lifetimes_of operators tensors u room ≡ refused_at bad_row a → Outcome
    never_named : (a : ℕ) → Sized operators tensors u room → ((k : ℕ) → k < count u → GoodUse operators tensors u k) → Lowest NeverNamed tensors a
        → lifetimes_of operators tensors u room ≡ refused_at tensor_never_named a → Outcome
    too_early_case : (a : ℕ) → Sized operators tensors u room → ((k : ℕ) → k < count u → GoodUse operators tensors u k) → ((t : ℕ) → t < tensors → NeverNamed t → ⊥)
        → Lowest (TooEarly u) (count u) a → lifetimes_of operators tensors u room ≡ refused_at read_before_written a → Outcome
    done : Sized operators tensors u room → ((k : ℕ) → k < count u → GoodUse operators tensors u k) → ((t : ℕ) → t < tensors → NeverNamed t → ⊥)
        → ((k : ℕ) → k < count u → TooEarly u k → ⊥) → lifetimes_of operators tensors u room ≡ done_with 0 → Outcome

  -- ---- what the tests say

  out_of_says : out_of_limits operators tensors u ≡ true → OutOfLimits
  out_of_says e = go (lt_or_le greatest_uses (count u)) (lt_or_le greatest_operators operators) (lt_or_le greatest_tensors tensors) (lt_or_le 0 operators)
    where
      go : (greatest_uses < count u) ⊎ (count u ≤ greatest_uses) → (greatest_operators < operators) ⊎ (operators ≤ greatest_operators)
          → (greatest_tensors < tensors) ⊎ (tensors ≤ greatest_tensors) → (0 < operators) ⊎ (operators ≤ 0) → OutOfLimits
      go (inl a) b c d = many_uses a
      go (inr a) (inl b) c d = many_operators b
      go (inr a) (inr b) (inl c) d = many_tensors c
      go (inr a) (inr b) (inr c) (inr d) = no_operator (omega arith)
      go (inr a) (inr b) (inr c) (inl d) = contrary e (limits_of operators tensors u a b c d)

  out_of_not : out_of_limits operators tensors u ≡ false → OutOfLimits → ⊥
  out_of_not e (many_uses l) = omega (arith, (limits_say operators tensors u e).0)
  out_of_not e (many_operators l) = omega (arith, (limits_say operators tensors u e).1)
  out_of_not e (many_tensors l) = omega (arith, (limits_say operators tensors u e).2)
  out_of_not e (no_operator z) = omega (arith, (limits_say operators tensors u e).3)

  -- ---- the answer

  -- Past the checks 1, 2 and 3.
  module _ (z : Sized operators tensors u room) where
    bad_says : (k : ℕ) → bad_use operators tensors u k ≡ true → GoodUse operators tensors u k → ⊥
    bad_says k e x = contrary e (ap not (good_of operators tensors u k z.few_operators z.few_tensors x))

    bad_of : (k : ℕ) → (GoodUse operators tensors u k → ⊥) → bad_use operators tensors u k ≡ true
    bad_of k f = refuted _ (λ e. f (good_says operators tensors u k z.few_operators z.few_tensors (not-false _ e)))

    -- Past the check 5.
    module _ (g : EachGood operators tensors u) where
      good_uses : (k : ℕ) → k < count u → GoodUse operators tensors u k
      good_uses k l = good_says operators tensors u k z.few_operators z.few_tensors (g.each k l)

      all_natural : (k : ℕ) → k < count u → Natural u k
      all_natural = natural_words operators tensors u room z g

      unnamed_says : (t : ℕ) → unnamed operators u t ≡ true → NeverNamed t
      unfolding unnamed
      unnamed_says t e m l n = contrary (named_of u all_natural t m n) (none_holds (named u t) operators (not-true _ e) m l)

      unnamed_of : (t : ℕ) → NeverNamed t → unnamed operators u t ≡ true
      unfolding unnamed
      unnamed_of t f = refuted _ (λ e. let x = found (named u t) operators (not-false _ e) in f _ x.0 (named_says u all_natural t _ x.1))

      judged_outcome : (b : Bool) → holds_below (unnamed operators u) tensors ≡ b → (c : Bool) → holds_below (too_early u) (count u) ≡ c → Outcome
      unfolding holds_below
      judged_outcome true e c f =
          never_named _ z good_uses (lowest_of (unnamed operators u) tensors (λ t l. unnamed_says t) (λ t l. unnamed_of t) e)
          (sym (name_refused operators tensors u refl (ltb-true _ _ e) ∙ judged_decides operators tensors u room z g))
      judged_outcome false e true f =
          too_early_case _ z good_uses (λ t l n. contrary (unnamed_of t n) (none_holds (unnamed operators u) tensors e t l))
          (lowest_of (too_early u) (count u) (early_says u all_natural) (early_of u all_natural) f)
          (sym (read_refused operators tensors u refl refl (ltb-false _ _ e) (ltb-true _ _ f) ∙ judged_decides operators tensors u room z g))
      judged_outcome false e false f =
          done z good_uses (λ t l n. contrary (unnamed_of t n) (none_holds (unnamed operators u) tensors e t l))
          (λ k l x. contrary (early_of u all_natural k l x) (none_holds (too_early u) (count u) f k l))
          (sym (judged_passed operators tensors u refl refl (ltb-false _ _ e) (ltb-false _ _ f) ∙ judged_decides operators tensors u room z g))

    uses_outcome : (b : Bool) → holds_below (bad_use operators tensors u) (count u) ≡ b → Outcome
    unfolding holds_below
    uses_outcome true e =
        let told = use_refused operators tensors u room refl z (ltb-true _ _ e) in
        bad_use_case _ z (lowest_of (bad_use operators tensors u) (count u) (λ k l. bad_says k) (λ k l. bad_of k) e)
        (sym (told ∙ list_stands operators tensors u room (λ n. omega (arith, ap number_of told, n))))
    uses_outcome false e =
        judged_outcome (good_of_none operators tensors u room e)
        (holds_below (unnamed operators u) tensors) refl (holds_below (too_early u) (count u)) refl

  -- So it is answered.
  pub outcome : Outcome
  unfolding lifetimes_of
  outcome = go (same_or_not (length u % 3) 0) (out_of_limits operators tensors u) refl (lt_or_le room (tensors * 2))
    where
      go : (length u % 3 ≡ 0) ⊎ (length u % 3 ≡ 0 → ⊥) → (b : Bool) → out_of_limits operators tensors u ≡ b → (room < tensors * 2) ⊎ (tensors * 2 ≤ room) → Outcome
      go (inr f) b e r = not_whole f (rw (ne_eqb (length u % 3) 0 f, first_cause))
      go (inl w) true e r = out_of_limits_case w (out_of_says e) (rw (eq-eqb (length u % 3) 0 w, first_cause, e, first_cause))
      go (inl w) false e (inl l) = too_short w (out_of_not e) l (rw (eq-eqb (length u % 3) 0 w, first_cause, e, first_cause, lt-ltb _ _ l, first_cause))
      go (inl w) false e (inr l) =
          let x = limits_say operators tensors u e in
          uses_outcome (record { whole = w; few_uses = x.0; some_operator = x.3; few_operators = x.1; few_tensors = x.2; roomy = l })
          (holds_below (bad_use operators tensors u) (count u)) refl
