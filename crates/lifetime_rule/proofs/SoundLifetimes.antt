-- Laws of the definitions of specs/SoundLifetimes.antt.
use Rattle.std.specs.Prelude.{ℕ, ◌+◌, ◌*◌, ◌<◌, ◌≤◌, Bool, true, not, List, ◌≡◌, refl, ℤ, pos, length, ◌≤ℤ◌}
use Rattle.std.proofs.Math.Bool.{false}
use Rattle.std.proofs.Common.{⊎_elim, sym, ◌∙◌, subst, arith}
use Rattle.std.proofs.Math.Path.{ap}
use borrow.Author.Tests.{not-true, not-false}
use Rattle.answer.specs.Answer.{number_of, done_with}
use Rattle.bounded.proofs.Boolean.{contrary, refuted, lt_or_le}
use Rattle.bounded.specs.Lowest.{Lowest, Highest}
use Rattle.bounded.proofs.Lowest.{lowest_of, highest_of}
use Rattle.bounded.proofs.Replaced.{replaced_length, replaced_at, replaced_past}
use Rattle.bounded.proofs.TwoEach.{two_first, two_second}
use Rattle.words.specs.Words.{word_at, natural}
use Rattle.words.specs.WordOrders.{le_of}
use Rattle.request_table.specs.Limits.{last_moment}
use Rattle.lifetime_rule.proofs.Answers.{natural_words, Done, done_says, done_lifetimes}
use Rattle.lifetime_rule.specs.GoodUses.{Natural}
use Rattle.lifetime_rule.proofs.GoodUses.{tests}
use Rattle.lifetime_rule.specs.Lifetimes.{named, is_output, first_of, last_of, unnamed, lifetime_word}
use Rattle.lifetime_rule.specs.FromUses.{lifetimes_of, final_lifetimes}
use Rattle.lifetime_rule.specs.Naming.{Names, by_reading, by_writing, as_input, Named, Output}
use Rattle.lifetime_rule.proofs.Naming.{named_says, named_of, output_says, output_of, read_let}
use Rattle.lifetime_rule.specs.Uses.{count, word, use_at}
use Rattle.lifetime_rule.specs.SoundLifetimes.{Ends, Left, Lifetime, as_output, by_naming}

-- ---- the lives

module _ (operators : ℕ) (u : List ℤ) (each : (k : ℕ) → k < count u → Natural u k) (t : ℕ) (e : unnamed operators u t ≡ false) where
  -- A life begins at the lowest operator that names the tensor,
  pub first_is_lowest : Lowest (Named u t) operators (first_of operators u t)
  unfolding unnamed first_of
  first_is_lowest = lowest_of (named u t) operators (λ m l. named_says u each t m) (λ m l. named_of u each t m) (not-false _ e)

  -- That of a model output ends with operator T − 1,
  pub output_lasts : Output u t → last_of operators u t + 1 ≡ operators
  unfolding last_of
  output_lasts x = rw (output_of u each t x, last_of) (omega (arith, first_is_lowest.within))

  -- and that of any other at the highest operator that names the tensor.
  pub last_is_highest : (Output u t → ⊥) → Highest (Named u t) operators (last_of operators u t)
  unfolding unnamed last_of
  last_is_highest f =
      let none : is_output u t ≡ false = not-true _ (refuted (not (is_output u t)) (λ q. f (output_says u each t (not-false _ q)))) in
      rw (none, last_of) (highest_of (named u t) operators (named_says u each t) (named_of u each t) (not-false _ e))

  -- So it ends as it must,
  ending : (b : Bool) → is_output u t ≡ b → Ends operators u t (last_of operators u t)
  ending true q = let x = output_says u each t q in as_output x (output_lasts x)
  ending false q = let f : Output u t → ⊥ = λ x. contrary (output_of u each t x) q in by_naming f (last_is_highest f).here

  -- with one of the operators, and with none before one that names the tensor.
  bounds : Ends operators u t (last_of operators u t) → (last_of operators u t < operators) × ((m : ℕ) → m < operators → Named u t m → m ≤ last_of operators u t)
  bounds (as_output x q) = (omega arith, λ m l n. omega arith)
  bounds (by_naming f n) =
      let h = last_is_highest f in
      (h.within, λ m l k. ⊎_elim (λ above. absurd (h.above m above l k)) (λ below. below) (lt_or_le (last_of operators u t) m))

  -- So a named tensor lives, where every operator that names it is one of the operators.
  pub named_lifetime : ((m k : ℕ) → k < count u → Names u t m k → m < operators) → Lifetime operators u t (first_of operators u t) (last_of operators u t)
  named_lifetime low =
      let ends = ending (is_output u t) refl in
      let last = bounds ends in
      record {
        rising = last.1 (first_of operators u t) first_is_lowest.within first_is_lowest.here;
        below = last.0;
        holds = λ m k w n.
            let named_there : Named u t m = record { which = k; within = w; so = n } in
            (not_below m named_there, last.1 m (low m k w n) named_there);
        first_named = first_is_lowest.here;
        ends = ends;
      }
    where
      not_below : (m : ℕ) → Named u t m → first_of operators u t ≤ m
      not_below m n = ⊎_elim (λ l. absurd (first_is_lowest.below m l n)) (λ l. l) (lt_or_le m (first_of operators u t))

-- ---- a done list

module _ (operators tensors : ℕ) (u lifetimes : List ℤ) (d : lifetimes_of operators tensors u (length lifetimes) ≡ done_with 0) where
  done : Done operators tensors u (length lifetimes)
  done = done_says operators tensors u (length lifetimes) (ap number_of d)

  all_natural : (k : ℕ) → k < count u → Natural u k
  all_natural = natural_words operators tensors u (length lifetimes) done.sized done.uses_good

  below : (k : ℕ) → k < count u → (m : ℕ) → word u k 0 ≡ pos m → m < operators
  unfolding natural use_at
  below k l m o =
      let x = tests operators tensors (use_at u k) (done.uses_good.each k l) in
      omega (arith, x.operator, ap natural o)

  -- The operator by which a tensor is named is one of the operators.
  named_low : (t m k : ℕ) → k < count u → Names u t m k → m < operators
  named_low t m k l (by_reading r w o) = below k l m o
  named_low t m k l (by_writing r w o) = below k l m o
  named_low t m k l (as_input r w z) = omega (arith, z, done.sized.some_operator)

  -- A done list leaves this.
  pub left : Left operators tensors u lifetimes
  left =
      let f = done_lifetimes operators tensors u lifetimes (ap number_of d) in
      record {
        first = first_of operators u;
        last = last_of operators u;
        first_entry = λ t l.
            ap (λ (xs : List ℤ). word_at xs (t * 2)) f ∙ replaced_at (lifetime_word operators u) (tensors * 2) lifetimes (pos 0) (t * 2) (omega arith) done.sized.roomy ∙ two_first _ _ t;
        last_entry = λ t l.
            ap (λ (xs : List ℤ). word_at xs (t * 2 + 1)) f ∙ replaced_at (lifetime_word operators u) (tensors * 2) lifetimes (pos 0) (t * 2 + 1) (omega arith) done.sized.roomy ∙ two_second _ _ t;
        lifetime = λ t l. named_lifetime operators u all_natural t (done.all_named t l) (named_low t);
        rest = λ i l. ap (λ (xs : List ℤ). word_at xs i) f ∙ replaced_past (lifetime_word operators u) (tensors * 2) lifetimes (pos 0) i l;
        long = ap length f ∙ replaced_length (lifetime_word operators u) (tensors * 2) lifetimes;
        let_read = λ k l e. read_let u all_natural k l e (done.none_early k l);
      }

  -- A model output is one of the tensors, and it lives through operator T − 1.
  pub output_within : (t : ℕ) → Output u t → t < tensors
  unfolding natural use_at
  output_within t x =
      let y = tests operators tensors (use_at u x.which) (done.uses_good.each x.which x.within) in
      omega (arith, y.tensor, ap natural x.so.tensor)

  pub output_last : (t : ℕ) → Output u t → left.last t + 1 ≡ operators
  unfolding left
  output_last t x = output_lasts operators u all_natural t (done.all_named t (output_within t x)) x

  -- The ends of a life are good moments for a request row: "0 ≤ first ≤ last ≤ 65,535".
  pub good_moments : (t : ℕ) → t < tensors → (first last : ℤ) → first ≡ word_at (final_lifetimes operators tensors u lifetimes) (t * 2) → last ≡ word_at (final_lifetimes operators tensors u lifetimes) (t * 2 + 1)
      → (pos 0 ≤ℤ first) × (first ≤ℤ last) × (last ≤ℤ pos last_moment)
  good_moments t l first last p q =
      let x = left.lifetime t l in
      let a = p ∙ left.first_entry t l in
      let b = q ∙ left.last_entry t l in (
        subst (λ (z : ℤ). pos 0 ≤ℤ z) (sym a) (le_of 0 _ (omega arith)),
        subst (λ (z : ℤ). z ≤ℤ last) (sym a) (subst (λ (z : ℤ). pos (left.first t) ≤ℤ z) (sym b) (le_of _ _ x.rising)),
        subst (λ (z : ℤ). z ≤ℤ pos last_moment) (sym b) (le_of _ _ (omega (arith, x.below, done.sized.few_operators))),
      )
