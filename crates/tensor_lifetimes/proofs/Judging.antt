-- What the array says of a tensor or a use is what the definitions say.
use Prim.Native.Nat.{ℕ, ◌*◌, ◌-◌, ◌<◌, ◌≤◌, zero-le}
use mathlib.Core.Bool.{Bool, true, false, not, ◌&&◌, ◌||◌, or-true}
use mathlib.Core.List.{List}
use mathlib.Core.Logic.{◌⊎◌, inl, inr}
use mathlib.Core.Path.{◌≡◌, sym, ◌∙◌, ap}
use native.Mathlib.Omega.{arith}
use borrow.Author.Tests.{not-false, ltb-true, lt-ltb, le-ltb, le-leb, lt-leb}
use lib.Dec.{leb, ltb, eqb}
use lib.IntN.{ℤ, pos}
use Rattle.bounded.proofs.Boolean.{both, both_hold, either, lt_or_le}
use Rattle.bounded.specs.First.{first_in, holds_below}
use Rattle.bounded.proofs.First.{first_is, first_same, found, some_found}
use Rattle.bounded.specs.Replaced.{replaced}
use Rattle.bounded.proofs.Replaced.{replaced_same}
use Rattle.bounded.proofs.TwoEach.{two_same}
use Rattle.lifetime_rule.specs.Answers.{EachGood}
use Rattle.lifetime_rule.proofs.GoodUses.{tests}
use Rattle.lifetime_rule.specs.Lifetimes.{named, is_output, first_of, last_of, unnamed, lets, readable, too_early, lifetime_word}
use Rattle.lifetime_rule.specs.Uses.{reads, writes, model_input, greatest_operators, greatest_tensors, count, use_at, good}
use Rattle.lifetime_rule.specs.declared.Use.{Use}
use Rattle.tensor_lifetimes.specs.Gathered.{named_so_far, output_so_far, readable_so_far, lifetime_so_far, HoldsLifetimes, StorableLifetimes, unnamed_in, reads_early, early_in, stored_word}
use Rattle.tensor_lifetimes.proofs.LifetimeEnds.{end_above, last_before}
use Rattle.tensor_lifetimes.proofs.OneUse.{known_high}
use Rattle.known_lifetimes.specs.declared.Lifetime.{Lifetime}

-- A number is at least another exactly where it is not below it.
not_below : (a b : ℕ) → leb b a ≡ not (ltb a b)
not_below a b = go (lt_or_le a b)
  where
    go : (a < b) ⊎ (b ≤ a) → leb b a ≡ not (ltb a b)
    go (inl l) = lt-leb b a l ∙ sym (ap not (lt-ltb a b l))
    go (inr l) = le-leb b a l ∙ sym (ap not (le-ltb a b l))

-- Who may read a tensor, may read it later too.
lets_later : (x : Use) (t m n : ℕ) → m ≤ n → lets x t m ≡ true → lets x t n ≡ true
unfolding lets
lets_later x t m n l e =
    let a = both (eqb x.tensor.0 t) (eqb x.role model_input || (eqb x.role writes && ltb x.operator.0 m)) e in
    both_hold _ _ a.0 (go (either _ _ a.1))
  where
    go : (eqb x.role model_input ≡ true) ⊎ (eqb x.role writes && ltb x.operator.0 m ≡ true) → eqb x.role model_input || (eqb x.role writes && ltb x.operator.0 n) ≡ true
    go (inl q) = rw q
    go (inr q) =
        let y = both (eqb x.role writes) (ltb x.operator.0 m) q in
        let w = both_hold _ _ y.0 (lt-ltb x.operator.0 n (omega (arith, ltb-true x.operator.0 m y.1))) in
        ap (λ (b : Bool). eqb x.role model_input || b) w ∙ or-true (eqb x.role model_input)

readable_later : (u : List ℤ) (t m n : ℕ) → m ≤ n → readable u t m ≡ true → readable u t n ≡ true
unfolding readable
readable_later u t m n l e =
    let x = found (λ k. lets (use_at u k) t m) (count u) e in
    some_found (λ k. lets (use_at u k) t n) (count u) _ x.0 (lets_later (use_at u _) t m n l x.1)

-- So an operator may read a tensor exactly from the lowest on that may.
readable_from : (operators : ℕ) (u : List ℤ) (t m : ℕ) → m < operators → ltb m (first_in (readable u t) 0 operators) ≡ not (readable u t m)
readable_from operators u t m l = go (lt_or_le m (first_in (readable u t) 0 operators))
  where
    go : (m < first_in (readable u t) 0 operators) ⊎ (first_in (readable u t) 0 operators ≤ m) → ltb m (first_in (readable u t) 0 operators) ≡ not (readable u t m)
    go (inl h) = lt-ltb _ _ h ∙ sym (ap not ((first_is (readable u t) 0 operators zero-le).before m zero-le h))
    go (inr h) = le-ltb _ _ h ∙ sym (ap not (readable_later u t _ m h ((first_is (readable u t) 0 operators zero-le).at (omega arith))))

-- The test of a use that reads too early, on the use that was read.
pub early_test : (u : List ℤ) (gathered : List Lifetime) (k : ℕ) {x : Use} → x ≡ use_at u k → reads_early gathered x ≡ early_in u gathered k
early_test u gathered k e = ap (reads_early gathered) e

module _ {operators : ℕ} {u : List ℤ} {gathered : List Lifetime} (h : HoldsLifetimes operators u gathered) where
  -- No operator names the tensor.
  pub unnamed_is : (t : ℕ) → t < greatest_tensors → unnamed_in operators gathered t ≡ unnamed operators u t
  unfolding unnamed holds_below lifetime_so_far named_so_far named
  unnamed_is t l = ap (λ (x : Lifetime). leb operators x.first.0) (h.each t l) ∙ not_below (first_in (named u t) 0 operators) operators

  -- The use reads too early.
  pub early_is : (tensors k : ℕ) → tensors ≤ greatest_tensors → good operators tensors (use_at u k) ≡ true → early_in u gathered k ≡ too_early u k
  unfolding too_early lifetime_so_far readable_so_far readable
  early_is tensors k few e =
      let x = tests operators tensors (use_at u k) e in
      ap (λ (b : Bool). eqb (use_at u k).role reads && b)
      (ap (λ (y : Lifetime). ltb (use_at u k).operator.0 y.readable.0) (h.each (use_at u k).tensor.0 (omega (arith, x.tensor)))
      ∙ readable_from operators u (use_at u k).tensor.0 (use_at u k).operator.0 x.operator)

  -- The lowest tensor never named by the array is the lowest never named,
  pub lowest_unnamed_is : (tensors : ℕ) → tensors ≤ greatest_tensors → first_in (unnamed_in operators gathered) 0 tensors ≡ first_in (unnamed operators u) 0 tensors
  lowest_unnamed_is tensors few = first_same _ _ 0 tensors (λ t z l. unnamed_is t (omega arith))

  -- and so for the uses that read too early.
  pub lowest_early_is : (tensors : ℕ) → tensors ≤ greatest_tensors → EachGood operators tensors u → first_in (early_in u gathered) 0 (count u) ≡ first_in (too_early u) 0 (count u)
  lowest_early_is tensors few g = first_same _ _ 0 (count u) (λ k z l. early_is tensors k few (g.each k l))

  -- The lives of the array, stored, are the lives.
  pub stored_is : (tensors : ℕ) (lifetimes : List ℤ) → tensors ≤ greatest_tensors → replaced (stored_word gathered) (tensors * 2) lifetimes ≡ replaced (lifetime_word operators u) (tensors * 2) lifetimes
  unfolding lifetime_so_far named_so_far output_so_far first_of last_of named is_output
  stored_is tensors lifetimes few =
      replaced_same (stored_word gathered) (lifetime_word operators u) (tensors * 2) lifetimes
      (two_same _ _ _ _ tensors (λ t l. ap (λ (x : Lifetime). pos x.first.0) (h.each t (omega arith)))
      (λ t l. ap (λ (x : Lifetime). pos (x.end.0 - 1)) (h.each t (omega arith)) ∙ ap pos (last_before (is_output u t) (named u t) operators)))

  -- They can be stored, where every tensor is named.
  pub storable : (tensors : ℕ) → tensors ≤ greatest_tensors → operators ≤ greatest_operators → ((t : ℕ) → t < tensors → unnamed operators u t ≡ false) → StorableLifetimes tensors gathered
  unfolding lifetime_so_far named_so_far output_so_far unnamed named is_output
  storable tensors few low all =
      record {
        ended = λ t l.
            let x = found (named u t) operators (not-false _ (all t l)) in
            omega (arith, ap (λ (y : Lifetime). y.end.0) (h.each t (omega arith)), end_above (is_output u t) (named u t) operators _ x.0 x.1);
        first_small = λ t l. omega (arith, ap (λ (x : Lifetime). x.first.0) (h.each t (omega arith)), (known_high operators u (count u) t).0);
        end_small = λ t l. omega (arith, ap (λ (x : Lifetime). x.end.0) (h.each t (omega arith)), (known_high operators u (count u) t).1);
      }
