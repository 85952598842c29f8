-- Laws of the definitions of specs/Answers.antt.
use Rattle.std.specs.Prelude.{ℕ, ◌<◌, ◌≤◌, ◌*◌, false, not, ◌||◌, List, ◌≡◌, ℤ, length}
use Rattle.std.proofs.Math.Path.{refl, sym, ap}
use Rattle.std.proofs.Common.{◌∙◌, arith}
use borrow.Author.Tests.{ltb-false, le-ltb, lt-ltb, eqb-true, eqb-false, eq-eqb, ne_eqb, not-false}
use Rattle.std.proofs.Math.Dec.{ltb, eqb}
use Rattle.answer.specs.Answer.{number_of, refused_at, done_with, bad_row, tensor_never_named, read_before_written}
use Rattle.answer.specs.declared.Answer.{Answer}
use Rattle.bounded.proofs.Boolean.{neither, neither_holds}
use Rattle.bounded.specs.Causes.{Gives, NoneHolds, AllRefuse, first_cause}
use Rattle.bounded.proofs.Causes.{given, next, none_left, follows_more, passed, refused_stands}
use Rattle.bounded.specs.First.{first_in, holds_below}
use Rattle.bounded.proofs.First.{none_holds, none_found}
use Rattle.bounded.specs.Replaced.{replaced}
use Rattle.lifetime_rule.specs.GoodUses.{Natural}
use Rattle.lifetime_rule.proofs.GoodUses.{good_natural}
use Rattle.lifetime_rule.specs.Lifetimes.{unnamed, too_early, lifetime_word}
use Rattle.lifetime_rule.specs.FromUses.{out_of_limits, size_causes, use_causes, list_causes, lifetime_causes, causes, sizes_of, list_of, judged_of, lifetimes_of, final_lifetimes}
use Rattle.lifetime_rule.specs.Uses.{greatest_operators, greatest_tensors, greatest_uses, count, bad_use}
use Rattle.lifetime_rule.specs.Answers.{EachGood, Sized}

-- ---- the limits

module _ (operators tensors : ℕ) (u : List ℤ) where
  -- The limits hold where the test of them fails,
  pub limits_say : out_of_limits operators tensors u ≡ false
      → (count u ≤ greatest_uses) × (operators ≤ greatest_operators) × (tensors ≤ greatest_tensors) × (0 < operators)
  unfolding out_of_limits
  limits_say e =
      let x = neither (ltb greatest_uses (count u) || ltb greatest_operators operators) (ltb greatest_tensors tensors || eqb operators 0) e in
      let y = neither (ltb greatest_uses (count u)) (ltb greatest_operators operators) x.0 in
      let z = neither (ltb greatest_tensors tensors) (eqb operators 0) x.1 in
      let some : operators ≡ 0 → ⊥ = eqb-false operators 0 z.1 in
      (ltb-false _ _ y.0, ltb-false _ _ y.1, ltb-false _ _ z.0, omega arith)

  -- and the other way.
  pub limits_of : count u ≤ greatest_uses → operators ≤ greatest_operators → tensors ≤ greatest_tensors → 0 < operators → out_of_limits operators tensors u ≡ false
  unfolding out_of_limits
  limits_of a b c d =
      neither_holds (ltb greatest_uses (count u) || ltb greatest_operators operators) (ltb greatest_tensors tensors || eqb operators 0)
      (neither_holds _ _ (le-ltb _ _ a) (le-ltb _ _ b)) (neither_holds _ _ (le-ltb _ _ c) (ne_eqb operators 0 (omega arith)))

-- ---- the checks 20 and 21, as the code goes through them

judged_given : (operators tensors : ℕ) (u : List ℤ) {x : Answer} → Gives (lifetime_causes operators tensors u) (done_with 0) x → x ≡ judged_of operators tensors u
unfolding judged_of
judged_given operators tensors u g = g.is

module _ (operators tensors : ℕ) (u : List ℤ) {t : ℕ} (lowest_tensor : t ≡ first_in (unnamed operators u) 0 tensors) where
  -- The lowest tensor never named first,
  pub name_refused : t < tensors → refused_at tensor_never_named t ≡ judged_of operators tensors u
  unfolding holds_below
  name_refused l =
      let some = lt-ltb (first_in (unnamed operators u) 0 tensors) tensors (omega (arith, lowest_tensor)) in
      ap (refused_at tensor_never_named) lowest_tensor ∙ judged_given operators tensors u (given some)

  module _ {k : ℕ} (lowest_use : k ≡ first_in (too_early u) 0 (count u)) (named_all : tensors ≤ t) where
    none_unnamed : ltb (first_in (unnamed operators u) 0 tensors) tensors ≡ false
    none_unnamed = le-ltb (first_in (unnamed operators u) 0 tensors) tensors (omega (arith, lowest_tensor))

    -- then the lowest use that reads too early,
    pub read_refused : k < count u → refused_at read_before_written k ≡ judged_of operators tensors u
    unfolding holds_below
    read_refused l =
        let some = lt-ltb (first_in (too_early u) 0 (count u)) (count u) (omega (arith, lowest_use)) in
        ap (refused_at read_before_written) lowest_use ∙ judged_given operators tensors u (next none_unnamed (given some))

    -- and where there is none, both pass.
    pub judged_passed : count u ≤ k → done_with 0 ≡ judged_of operators tensors u
    unfolding holds_below
    judged_passed l =
        let none = le-ltb (first_in (too_early u) 0 (count u)) (count u) (omega (arith, lowest_use)) in
        judged_given operators tensors u (next none_unnamed (next none none_left))

-- ---- the order of all

module _ (operators tensors : ℕ) (u : List ℤ) (room : ℕ) where
  size_refuses : AllRefuse number_of (size_causes operators tensors u room)
  size_refuses = (omega arith, (omega arith, (omega arith, tt)))

  list_refuses : AllRefuse number_of (list_causes operators tensors u room)
  list_refuses = (omega arith, (omega arith, (omega arith, (omega arith, tt))))

  all_refuse : AllRefuse number_of (causes operators tensors u room)
  all_refuse = (omega arith, (omega arith, (omega arith, (omega arith, (omega arith, (omega arith, tt))))))

  sized_of : NoneHolds (size_causes operators tensors u room) → Sized operators tensors u room
  sized_of n =
      let x = limits_say operators tensors u n.1.0 in
      record {
        whole = eqb-true _ _ (not-false _ n.0);
        few_uses = x.0;
        some_operator = x.3;
        few_operators = x.1;
        few_tensors = x.2;
        roomy = ltb-false _ _ n.1.1.0;
      }

  sizes_none : Sized operators tensors u room → NoneHolds (size_causes operators tensors u room)
  sizes_none z =
      (ap not (eq-eqb _ _ z.whole), (limits_of operators tensors u z.few_uses z.few_operators z.few_tensors z.some_operator, (le-ltb _ _ z.roomy, tt)))

  -- No use is found bad: every use is good,
  pub good_of_none : holds_below (bad_use operators tensors u) (count u) ≡ false → EachGood operators tensors u
  good_of_none e = record { each = λ k l. not-false _ (none_holds (bad_use operators tensors u) (count u) e k l) }

  -- and the other way.
  uses_none : EachGood operators tensors u → NoneHolds (use_causes operators tensors u)
  uses_none g = (none_found (bad_use operators tensors u) (count u) (λ k l. ap not (g.each k l)), tt)

  -- Past them the words of every use are natural numbers.
  pub natural_words : Sized operators tensors u room → EachGood operators tensors u → (k : ℕ) → k < count u → Natural u k
  natural_words z g k l = good_natural operators tensors u k z.few_operators z.few_tensors (g.each k l)

  -- The checks 1, 2 and 3 pass: the lengths and numbers are as they must be.
  pub sizes_passed : (sizes_of operators tensors u room).number ≡ 0 → Sized operators tensors u room
  unfolding sizes_of
  sizes_passed e = sized_of (passed number_of (size_causes operators tensors u room) (done_with 0) size_refuses e).0

  -- A refusal of theirs stands;
  pub sizes_stand : ((sizes_of operators tensors u room).number ≡ 0 → ⊥) → sizes_of operators tensors u room ≡ list_of operators tensors u room
  unfolding sizes_of list_of
  sizes_stand h = refused_stands number_of (size_causes operators tensors u room) (use_causes operators tensors u) (done_with 0) (done_with 0) refl h

  module _ {k : ℕ} (lowest_use : k ≡ first_in (bad_use operators tensors u) 0 (count u)) (z : Sized operators tensors u room) where
    uses_follow : first_cause (use_causes operators tensors u) (done_with 0) ≡ list_of operators tensors u room
    unfolding list_of
    uses_follow = sym (follows_more (size_causes operators tensors u room) (use_causes operators tensors u) (done_with 0) (sizes_none z))

    -- past them the lowest bad use is told,
    pub use_refused : k < count u → refused_at bad_row k ≡ list_of operators tensors u room
    unfolding holds_below
    use_refused l =
        let some = lt-ltb (first_in (bad_use operators tensors u) 0 (count u)) (count u) (omega (arith, lowest_use)) in
        let told : Gives (use_causes operators tensors u) (done_with 0) (refused_at bad_row (first_in (bad_use operators tensors u) 0 (count u))) = given some in
        ap (refused_at bad_row) lowest_use ∙ told.is ∙ uses_follow

    -- and where there is none, the four pass.
    pub list_passed : count u ≤ k → done_with 0 ≡ list_of operators tensors u room
    unfolding holds_below
    list_passed l =
        let none = le-ltb (first_in (bad_use operators tensors u) 0 (count u)) (count u) (omega (arith, lowest_use)) in
        let told : Gives (use_causes operators tensors u) (done_with 0) (done_with 0) = next none none_left in
        told.is ∙ uses_follow

  -- They pass only so.
  pub listed : (list_of operators tensors u room).number ≡ 0 → Sized operators tensors u room × EachGood operators tensors u
  unfolding list_of
  listed e =
      let n = (passed number_of (list_causes operators tensors u room) (done_with 0) list_refuses e).0 in
      (sized_of (n.0, (n.1.0, (n.1.1.0, tt))), good_of_none n.1.1.1.0)

  -- A refusal of the four stands;
  pub list_stands : ((list_of operators tensors u room).number ≡ 0 → ⊥) → list_of operators tensors u room ≡ lifetimes_of operators tensors u room
  unfolding list_of lifetimes_of
  list_stands h = refused_stands number_of (list_causes operators tensors u room) (lifetime_causes operators tensors u) (done_with 0) _ refl h

  -- past them the checks 20 and 21 decide.
  pub judged_decides : Sized operators tensors u room → EachGood operators tensors u → judged_of operators tensors u ≡ lifetimes_of operators tensors u room
  unfolding judged_of lifetimes_of
  judged_decides z g =
      let s = sizes_none z in
      let n : NoneHolds (list_causes operators tensors u room) = (s.0, (s.1.0, (s.1.1.0, uses_none g))) in
      sym (follows_more (list_causes operators tensors u room) (lifetime_causes operators tensors u) (done_with 0) n)

  -- What a done answer says: the lengths and numbers are as they must be, every use is good, every tensor is named, and no use reads too early.
  pub record Done : Type 0 where
    pub sized : Sized operators tensors u room
    pub uses_good : EachGood operators tensors u
    pub all_named : (t : ℕ) → t < tensors → unnamed operators u t ≡ false
    pub none_early : (k : ℕ) → k < count u → too_early u k ≡ false

  -- The answer is done only then.
  pub done_says : (lifetimes_of operators tensors u room).number ≡ 0 → Done
  unfolding lifetimes_of
  done_says e =
      let n = (passed number_of (causes operators tensors u room) (done_with 0) all_refuse e).0 in
      record {
        sized = sized_of (n.0, (n.1.0, (n.1.1.0, tt)));
        uses_good = good_of_none n.1.1.1.0;
        all_named = none_holds (unnamed operators u) tensors n.1.1.1.1.0;
        none_early = none_holds (too_early u) (count u) n.1.1.1.1.1.0;
      }

-- ---- what is left in the end

module _ (operators tensors : ℕ) (u lifetimes : List ℤ) where
  -- Done: the lives stand in the first entries.
  pub done_lifetimes : (lifetimes_of operators tensors u (length lifetimes)).number ≡ 0
      → final_lifetimes operators tensors u lifetimes ≡ replaced (lifetime_word operators u) (tensors * 2) lifetimes
  unfolding final_lifetimes
  done_lifetimes e = rw (eq-eqb (lifetimes_of operators tensors u (length lifetimes)).number 0 e, final_lifetimes)

  -- A refusal leaves all as lent.
  pub refusal_keeps : ((lifetimes_of operators tensors u (length lifetimes)).number ≡ 0 → ⊥) → final_lifetimes operators tensors u lifetimes ≡ lifetimes
  unfolding final_lifetimes
  refusal_keeps h = rw (ne_eqb (lifetimes_of operators tensors u (length lifetimes)).number 0 h, final_lifetimes)
