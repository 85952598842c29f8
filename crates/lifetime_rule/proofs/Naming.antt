-- Laws of the definitions of specs/Naming.antt.
use Rattle.std.specs.Prelude.{ℕ, ◌<◌, Bool, ◌&&◌, ◌||◌, List, ◌⊎◌, ◌≡◌, refl, ℤ, ◌<ℤ◌}
use Rattle.std.proofs.Math.Bool.{true, false, not}
use Rattle.std.proofs.Common.{inl, inr, ◌∙◌, ap, subst}
use Rattle.std.proofs.Math.Path.{sym}
use borrow.Author.Tests.{ltb-true, lt-ltb, eqb-true, eq-eqb, not-false, not-true}
use Rattle.std.proofs.Math.Dec.{ltb, eqb}
use Rattle.std.proofs.Math.IntN.{pos}
use Rattle.bounded.proofs.Boolean.{both, both_hold, contrary, either, refuted}
use Rattle.bounded.specs.First.{first_in, holds_below}
use Rattle.bounded.proofs.First.{found, some_found, none_holds}
use Rattle.words.specs.Words.{natural}
use Rattle.words.specs.WordOrders.{lt_of, of_lt}
use Rattle.lifetime_rule.specs.GoodUses.{Natural}
use Rattle.lifetime_rule.specs.Lifetimes.{names, named, gives_out, is_output, lets, readable, too_early}
use Rattle.lifetime_rule.specs.Uses.{reads, writes, model_input, model_output, count, word, use_at}
use Rattle.lifetime_rule.specs.Naming.{GivesOut, Lets, Named, Names, Output, Some, TooEarly, after_writing, as_input, by_reading, by_writing, of_input}

-- ---- one use

-- A word that is a natural number is the one for which it passes the test.
said : {z : ℤ} {n : ℕ} → z ≡ pos (natural z) → eqb (natural z) n ≡ true → z ≡ pos n
said e q = e ∙ ap pos (eqb-true _ _ q)

module _ (u : List ℤ) (k : ℕ) where
  -- A use that names a tensor passes the test,
  pub names_of : (t m : ℕ) → Names u t m k → names (use_at u k) t m ≡ true
  unfolding names use_at natural
  names_of t m (by_reading r w o) = rw (r, w, o) (both_hold _ _ (eq-eqb t t refl) (rw (eq-eqb m m refl)))
  names_of t m (by_writing r w o) = rw (r, w, o) (both_hold _ _ (eq-eqb t t refl) (rw (eq-eqb m m refl)))
  names_of t m (as_input r w z) = rw (r, w) (both_hold _ _ (eq-eqb t t refl) (eq-eqb 0 m (sym z)))

  -- and where its words are natural numbers, the other way.
  pub names_says : (t m : ℕ) → Natural u k → names (use_at u k) t m ≡ true → Names u t m k
  unfolding names use_at
  names_says t m n e =
      let x = use_at u k in
      let a = both (eqb x.tensor.0 t) (((eqb x.role reads || eqb x.role writes) && eqb x.operator.0 m) || (eqb x.role model_input && eqb 0 m)) e in
      how (said n.tensor_is a.0) (either _ _ a.1)
    where
      act : word u k 1 ≡ pos t → eqb (natural (word u k 0)) m ≡ true → (eqb (natural (word u k 2)) reads ≡ true) ⊎ (eqb (natural (word u k 2)) writes ≡ true) → Names u t m k
      act w o (inl q) = by_reading (said n.role_is q) w (said n.operator_is o)
      act w o (inr q) = by_writing (said n.role_is q) w (said n.operator_is o)

      how : word u k 1 ≡ pos t
          → ((eqb (natural (word u k 2)) reads || eqb (natural (word u k 2)) writes) && eqb (natural (word u k 0)) m ≡ true) ⊎ (eqb (natural (word u k 2)) model_input && eqb 0 m ≡ true)
          → Names u t m k
      how w (inl q) = let x = both (eqb (natural (word u k 2)) reads || eqb (natural (word u k 2)) writes) (eqb (natural (word u k 0)) m) q in act w x.1 (either _ _ x.0)
      how w (inr q) = let x = both (eqb (natural (word u k 2)) model_input) (eqb 0 m) q in as_input (said n.role_is x.0) w (sym (eqb-true 0 m x.1))

  -- A use that makes a tensor a model output passes the test,
  pub gives_out_of : (t : ℕ) → GivesOut u t k → gives_out (use_at u k) t ≡ true
  unfolding gives_out use_at natural
  gives_out_of t x = both_hold _ _ (eq-eqb _ t (ap natural x.tensor)) (eq-eqb _ model_output (ap natural x.role))

  -- and the other way.
  pub gives_out_says : (t : ℕ) → Natural u k → gives_out (use_at u k) t ≡ true → GivesOut u t k
  unfolding gives_out use_at
  gives_out_says t n e =
      let x = use_at u k in
      let a = both (eqb x.tensor.0 t) (eqb x.role model_output) e in
      record { role = said n.role_is a.1; tensor = said n.tensor_is a.0 }

  -- A use that passes the other test lets another read,
  pub lets_says : (j : ℕ) → Natural u k → Natural u j → lets (use_at u j) (natural (word u k 1)) (natural (word u k 0)) ≡ true → Lets u k j
  unfolding lets use_at
  lets_says j n i e =
      let x = use_at u j in
      let a = both (eqb x.tensor.0 (natural (word u k 1))) (eqb x.role model_input || (eqb x.role writes && ltb x.operator.0 (natural (word u k 0)))) e in
      how (said i.tensor_is a.0 ∙ sym n.tensor_is) (either _ _ a.1)
    where
      how : word u j 1 ≡ word u k 1 → (eqb (natural (word u j 2)) model_input ≡ true) ⊎ (eqb (natural (word u j 2)) writes && ltb (natural (word u j 0)) (natural (word u k 0)) ≡ true) → Lets u k j
      how w (inl q) = of_input (said i.role_is q) w
      how w (inr q) =
          let x = both (eqb (natural (word u j 2)) writes) (ltb (natural (word u j 0)) (natural (word u k 0))) q in
          after_writing (said i.role_is x.0) w
          (subst (λ (z : ℤ). z <ℤ word u k 0) (sym i.operator_is) (subst (λ (z : ℤ). pos (natural (word u j 0)) <ℤ z) (sym n.operator_is) (lt_of _ _ (ltb-true _ _ x.1))))

  -- and the other way.
  pub lets_of : (j : ℕ) → Natural u k → Natural u j → Lets u k j → lets (use_at u j) (natural (word u k 1)) (natural (word u k 0)) ≡ true
  unfolding lets use_at natural
  lets_of j n i (of_input r w) = rw (r, w) (both_hold _ _ (eq-eqb (natural (word u k 1)) _ refl) refl)
  lets_of j n i (after_writing r w l) =
      let o : natural (word u j 0) < natural (word u k 0) = of_lt _ _ (subst (λ (z : ℤ). z <ℤ pos (natural (word u k 0))) i.operator_is (subst (λ (z : ℤ). word u j 0 <ℤ z) n.operator_is l)) in
      rw (r, w) (both_hold _ _ (eq-eqb (natural (word u k 1)) _ refl) (lt-ltb _ _ o))

-- ---- the whole list

-- Some use of the list does what a test says, where the test finds one,
some_says : (u : List ℤ) {So : ℕ → Type 0} (p : ℕ → Bool) → ((k : ℕ) → k < count u → p k ≡ true → So k) → holds_below p (count u) ≡ true → Some u So
some_says u p says e = let x = found p (count u) e in record { which = first_in p 0 (count u); within = x.0; so = says _ x.0 x.1 }

-- and the other way.
some_of : (u : List ℤ) {So : ℕ → Type 0} (p : ℕ → Bool) → ((k : ℕ) → So k → p k ≡ true) → Some u So → holds_below p (count u) ≡ true
some_of u p of x = some_found p (count u) x.which x.within (of x.which x.so)

module _ (u : List ℤ) (each : (k : ℕ) → k < count u → Natural u k) where
  -- The list names a tensor as the test says,
  pub named_says : (t m : ℕ) → named u t m ≡ true → Named u t m
  unfolding named
  named_says t m = some_says u (λ k. names (use_at u k) t m) (λ k l. names_says u k t m (each k l))

  -- and the other way.
  pub named_of : (t m : ℕ) → Named u t m → named u t m ≡ true
  unfolding named
  named_of t m = some_of u (λ k. names (use_at u k) t m) (λ k. names_of u k t m)

  -- A tensor is a model output as the test says,
  pub output_says : (t : ℕ) → is_output u t ≡ true → Output u t
  unfolding is_output
  output_says t = some_says u (λ k. gives_out (use_at u k) t) (λ k l. gives_out_says u k t (each k l))

  -- and the other way.
  pub output_of : (t : ℕ) → Output u t → is_output u t ≡ true
  unfolding is_output
  output_of t = some_of u (λ k. gives_out (use_at u k) t) (λ k. gives_out_of u k t)

  -- A use that reads, and not too early, is let by some use.
  pub read_let : (k : ℕ) → k < count u → word u k 2 ≡ pos reads → too_early u k ≡ false → Some u (Lets u k)
  unfolding too_early readable use_at natural
  read_let k l e f =
      let role : eqb (natural (word u k 2)) reads ≡ true = eq-eqb _ _ (ap natural e) in
      let g : not (readable u (natural (word u k 1)) (natural (word u k 0))) ≡ false = rw role at f in
      some_says u (λ j. lets (use_at u j) (natural (word u k 1)) (natural (word u k 0))) (λ j m. lets_says u k j (each k l) (each j m)) (not-false _ g)

  -- So a use that none lets reads too early.
  pub early_of : (k : ℕ) → k < count u → TooEarly u k → too_early u k ≡ true
  early_of k l x = refuted _ (λ e. x.not_let (read_let k l x.is_read e))

  -- And the other way.
  pub early_says : (k : ℕ) → k < count u → too_early u k ≡ true → TooEarly u k
  unfolding too_early readable use_at
  early_says k l e =
      let x = both (eqb (natural (word u k 2)) reads) (not (readable u (natural (word u k 1)) (natural (word u k 0)))) e in
      let none = none_holds (λ j. lets (use_at u j) (natural (word u k 1)) (natural (word u k 0))) (count u) (not-true _ x.1) in
      record {
        is_read = said (each k l).role_is x.0;
        not_let = λ s. contrary (lets_of u k s.which (each k l) (each _ s.within) s.so) (none s.which s.within);
      }
