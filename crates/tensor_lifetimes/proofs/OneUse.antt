-- What one use more adds to what is known of a tensor: by the definitions, by its role, and as the code works it out.
use Prim.Native.Nat.{ℕ, ◌+◌, ◌<◌, ◌≤◌, min, max, zero-le}
use mathlib.Core.Bool.{Bool, true, false, ◌||◌, or-false}
use mathlib.Core.List.{List}
use mathlib.Core.Logic.{◌⊎◌, inl, inr, ⊎_elim}
use mathlib.Core.Path.{◌≡◌, refl, sym, ◌∙◌, ap}
use native.Mathlib.Omega.{arith}
use borrow.Author.Tests.{lt-ltb, le-ltb, eq-eqb, ne_eqb}
use lib.Dec.{ltb, eqb}
use lib.IntN.{ℤ}
use Rattle.bounded.proofs.Boolean.{neither_holds}
use Rattle.bounded.specs.First.{first_in}
use Rattle.bounded.proofs.First.{first_is, one_first, first_none, first_same, first_either, holds_more}
use Rattle.lifetime_rule.specs.GoodUses.{Role, reading, writing, input, output, Tests}
use Rattle.lifetime_rule.proofs.GoodUses.{role_of, tests}
use Rattle.lifetime_rule.specs.Lifetimes.{names, gives_out, lets}
use Rattle.lifetime_rule.specs.Uses.{reads, writes, model_input, model_output, greatest_operators, use_at, good}
use Rattle.lifetime_rule.specs.declared.Use.{Use}
use Rattle.tensor_lifetimes.specs.Gathered.{named_so_far, output_so_far, end_by, readable_so_far, lifetime_so_far}
use Rattle.tensor_lifetimes.proofs.LifetimeEnds.{end_high, end_more, end_alike, end_output, end_at, end_nothing}
use Rattle.known_lifetimes.proofs.EachWay.{lifetime_lasts, lifetime_counts}
use Rattle.known_lifetimes.specs.OneUseMore.{readable_with, says_nothing, lifetime_with}
use Rattle.known_lifetimes.specs.declared.Lifetime.{Lifetime}

-- ---- one use more

module _ (operators : ℕ) (u : List ℤ) (j t : ℕ) where
  named_more : (m : ℕ) → named_so_far u (j + 1) t m ≡ named_so_far u j t m || names (use_at u j) t m
  unfolding named_so_far
  named_more m = holds_more (λ k. names (use_at u k) t m) j

  output_more : output_so_far u (j + 1) t ≡ output_so_far u j t || gives_out (use_at u j) t
  unfolding output_so_far
  output_more = holds_more (λ k. gives_out (use_at u k) t) j

  readable_more : (m : ℕ) → readable_so_far u (j + 1) t m ≡ readable_so_far u j t m || lets (use_at u j) t m
  unfolding readable_so_far
  readable_more m = holds_more (λ k. lets (use_at u k) t m) j

  -- With what the use itself adds to the first, the end and the lowest that may read.
  adds : {first end readable : ℕ} → first_in (names (use_at u j) t) 0 operators ≡ first → end_by (gives_out (use_at u j) t) (names (use_at u j) t) operators ≡ end → first_in (lets (use_at u j) t) 0 operators ≡ readable
      → lifetime_so_far operators u (j + 1) t ≡ record {
        first = record { 0 = min (lifetime_so_far operators u j t).first.0 first };
        end = record { 0 = max (lifetime_so_far operators u j t).end.0 end };
        readable = record { 0 = min (lifetime_so_far operators u j t).readable.0 readable };
      }
  unfolding lifetime_so_far
  adds f l r =
      let first = first_same _ _ 0 operators (λ m z y. named_more m) ∙ first_either (named_so_far u j t) (names (use_at u j) t) operators ∙ ap (λ (n : ℕ). min (first_in (named_so_far u j t) 0 operators) n) f in
      let end = end_alike _ _ _ _ operators output_more named_more ∙ end_more (output_so_far u j t) (gives_out (use_at u j) t) (named_so_far u j t) (names (use_at u j) t) operators ∙ ap (λ (n : ℕ). max (end_by (output_so_far u j t) (named_so_far u j t) operators) n) l in
      let readable = first_same _ _ 0 operators (λ m z y. readable_more m) ∙ first_either (readable_so_far u j t) (lets (use_at u j) t) operators ∙ ap (λ (n : ℕ). min (first_in (readable_so_far u j t) 0 operators) n) r in
      λ i. record { first = record { 0 = first i }; end = record { 0 = end i }; readable = record { 0 = readable i } }

-- ---- what a use adds, by its role

-- The operator alone.
first_at : (p : ℕ → Bool) (n o : ℕ) → o < n → ((m : ℕ) → p m ≡ eqb o m) → first_in p 0 n ≡ o
first_at p n o l f =
    one_first p 0 n o
    record { low = zero-le; high = omega arith; before = λ k z m. f k ∙ ne_eqb o k (omega arith); at = λ z. f o ∙ eq-eqb o o refl }

-- Those after the operator.
first_after : (p : ℕ → Bool) (n o : ℕ) → o < n → ((m : ℕ) → p m ≡ ltb o m) → first_in p 0 n ≡ o + 1
first_after p n o l f =
    one_first p 0 n (o + 1)
    record { low = zero-le; high = omega arith; before = λ k z m. f k ∙ le-ltb o k (omega arith); at = λ z. f (o + 1) ∙ lt-ltb o (o + 1) (omega arith) }

-- All of them.
first_all : (p : ℕ → Bool) (n : ℕ) → ((m : ℕ) → p m ≡ true) → first_in p 0 n ≡ 0
first_all p n f = one_first p 0 n 0 record { low = zero-le; high = zero-le; before = λ k z m. absurd (omega arith); at = λ z. f 0 }

-- What is known of a tensor is within the number of operators.
pub known_high : (operators : ℕ) (u : List ℤ) (j t : ℕ)
    → ((lifetime_so_far operators u j t).first.0 ≤ operators) × ((lifetime_so_far operators u j t).end.0 ≤ operators) × ((lifetime_so_far operators u j t).readable.0 ≤ operators)
unfolding lifetime_so_far
known_high operators u j t = ((first_is (named_so_far u j t) 0 operators zero-le).high, end_high (output_so_far u j t) (named_so_far u j t) operators, (first_is (readable_so_far u j t) 0 operators zero-le).high)

module _ (operators : ℕ) (u : List ℤ) (j t : ℕ) where
  -- A use that names by no operator and lets none read moves the end alone.
  end_alone : ((m : ℕ) → names (use_at u j) t m ≡ false) → ((m : ℕ) → lets (use_at u j) t m ≡ false)
      → {end all : ℕ} → end_by (gives_out (use_at u j) t) (names (use_at u j) t) operators ≡ end → max (lifetime_so_far operators u j t).end.0 end ≡ all
      → record { first = (lifetime_so_far operators u j t).first; end = record { 0 = all }; readable = (lifetime_so_far operators u j t).readable } ≡ lifetime_so_far operators u (j + 1) t
  end_alone n l e q =
      let h = known_high operators u j t in
      let first : min (lifetime_so_far operators u j t).first.0 operators ≡ (lifetime_so_far operators u j t).first.0 = omega (arith, h.0) in
      let readable : min (lifetime_so_far operators u j t).readable.0 operators ≡ (lifetime_so_far operators u j t).readable.0 = omega (arith, h.2) in
      sym
      (adds operators u j t (first_none _ operators (λ m z. n m)) e (first_none _ operators (λ m z. l m))
      ∙ (λ i. record { first = record { 0 = first i }; end = record { 0 = q i }; readable = record { 0 = readable i } }))

  -- A use of another tensor adds nothing.
  pub other_tensor : ((use_at u j).tensor.0 ≡ t → ⊥) → lifetime_so_far operators u j t ≡ lifetime_so_far operators u (j + 1) t
  unfolding names gives_out lets
  other_tensor d =
      let other = ne_eqb (use_at u j).tensor.0 t d in
      end_alone (λ m. rw other) (λ m. rw other) (end_nothing _ _ operators (rw other) (λ m. rw other)) (omega arith)

module _ (x : Use) where
  own : eqb x.tensor.0 x.tensor.0 ≡ true
  own = eq-eqb x.tensor.0 x.tensor.0 refl

  -- Role 3 makes the use's tensor a model output, and no other role does.
  output_given : x.role ≡ model_output → gives_out x x.tensor.0 ≡ true
  unfolding gives_out
  output_given q = rw (own, q)

  no_output : (x.role ≡ model_output → ⊥) → gives_out x x.tensor.0 ≡ false
  unfolding gives_out
  no_output f = rw (own, ne_eqb x.role model_output f)

-- By which operator a use names its own tensor, and which it lets read it.
module _ (x : Use) (m : ℕ) where
  -- Roles 0 and 1 name by the use's operator.
  acts_names : (x.role ≡ reads) ⊎ (x.role ≡ writes) → names x x.tensor.0 m ≡ eqb x.operator.0 m
  unfolding names
  acts_names (inl q) = rw (own x, q) (or-false (eqb x.operator.0 m))
  acts_names (inr q) = rw (own x, q) (or-false (eqb x.operator.0 m))

  -- Role 2 names by operator 0, which is the use's own.
  input_names : x.role ≡ model_input → x.operator.0 ≡ 0 → names x x.tensor.0 m ≡ eqb x.operator.0 m
  unfolding names
  input_names q z = rw (own x, q, z)

  -- Role 3 names by none.
  output_names : x.role ≡ model_output → names x x.tensor.0 m ≡ false
  unfolding names
  output_names q = rw (own x, q)

  -- A read and an output let none read, a write those after it, an input all.
  others_let : (x.role ≡ reads) ⊎ (x.role ≡ model_output) → lets x x.tensor.0 m ≡ false
  unfolding lets
  others_let (inl q) = rw (own x, q)
  others_let (inr q) = rw (own x, q)

  write_lets : x.role ≡ writes → lets x x.tensor.0 m ≡ ltb x.operator.0 m
  unfolding lets
  write_lets q = rw (own x, q)

  input_lets : x.role ≡ model_input → lets x x.tensor.0 m ≡ true
  unfolding lets
  input_lets q = rw (own x, q)

-- ---- a use of the tensor itself, and what the code makes of it

module _ (operators tensors : ℕ) (u : List ℤ) (j : ℕ) (few : operators ≤ greatest_operators) where
  abbrev usage : Use
  usage = use_at u j

  abbrev known : Lifetime
  known = lifetime_so_far operators u j usage.tensor.0

  -- a good use says something
  heard : Tests operators tensors usage → says_nothing usage ≡ false
  heard g = neither_holds _ _ (le-ltb _ _ g.role) (le-ltb greatest_operators usage.operator.0 (omega (arith, g.operator, few)))

  -- one that names its tensor by its own operator, with what it lets read
  by_operator : Tests operators tensors usage → (usage.role ≡ model_output → ⊥) → ((m : ℕ) → names usage usage.tensor.0 m ≡ eqb usage.operator.0 m)
      → {readable : ℕ} → first_in (lets usage usage.tensor.0) 0 operators ≡ readable → min known.readable.0 readable ≡ readable_with known.readable.0 usage
      → lifetime_with known usage operators ≡ lifetime_so_far operators u (j + 1) usage.tensor.0
  by_operator g f n r e =
      sym
      (adds operators u j usage.tensor.0 (first_at _ operators _ g.operator n) (end_at _ _ operators _ (no_output usage f) g.operator n) r
      ∙ lifetime_counts known usage operators (heard g) f refl refl e)

  by_role : Tests operators tensors usage → Role usage.role → lifetime_with known usage operators ≡ lifetime_so_far operators u (j + 1) usage.tensor.0
  unfolding readable_with
  by_role g (reading q) =
      let all : min known.readable.0 operators ≡ known.readable.0 = omega (arith, (known_high operators u j usage.tensor.0).2) in
      by_operator g (λ z. omega (arith, q)) (λ m. acts_names usage m (inl q)) (first_none _ operators (λ m l. others_let usage m (inl q))) (rw q all)
  by_role g (writing q) =
      by_operator g (λ z. omega (arith, q)) (λ m. acts_names usage m (inr q)) (first_after _ operators _ g.operator (λ m. write_lets usage m q)) (rw q)
  by_role g (input q) =
      let z : usage.operator.0 ≡ 0 = ⊎_elim (λ l. absurd (omega (arith, q))) (λ e. e) g.zero_outside in
      let all : min known.readable.0 0 ≡ 0 = omega arith in
      by_operator g (λ y. omega (arith, q)) (λ m. input_names usage m q z) (first_all _ operators (λ m. input_lets usage m q)) (rw q all)
  by_role g (output q) =
      sym (lifetime_lasts known usage operators (heard g) q)
      ∙ end_alone operators u j usage.tensor.0 (λ m. output_names usage m q) (λ m. others_let usage m (inr q)) (end_output _ _ operators (output_given usage q))
      (omega (arith, (known_high operators u j usage.tensor.0).1))

  -- A good use of the tensor adds what the code makes of it.
  pub own_tensor : good operators tensors usage ≡ true → lifetime_with known usage operators ≡ lifetime_so_far operators u (j + 1) usage.tensor.0
  own_tensor e = let g = tests operators tensors usage e in by_role g (role_of usage.role g.role)
