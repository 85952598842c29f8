-- Laws of the definitions of specs/GoodScripts.antt.
use Prim.Native.Nat.{ℕ, zero, suc, ◌<◌, ◌≤◌}
use Rattle.std.proofs.Math.Bool.{Bool, true, false}
use Rattle.std.specs.Prelude.{◌||◌, List, ◌⊎◌, ◌≡◌, leb, ℤ, negsuc, ◌≤ℤ◌, ◌<ℤ◌}
use Rattle.std.proofs.Common.{inl, inr, sym, ◌∙◌, eq-or-lt_of_le, le_of_suc-le-suc, leb-true, le-leb, leb→le}
use Rattle.std.proofs.Math.Logic.{⊎_elim}
use Rattle.std.proofs.Math.Path.{refl, ap, subst}
use native.Mathlib.Omega.{arith}
use Rattle.std.proofs.lemmas.Bool.{not-false, not-true}
use Rattle.std.proofs.Math.IntN.{pos}
use Rattle.std.specs.Int.Signed.{le_z_yes}
use Rattle.bounded.proofs.Boolean.{either, contrary}
use Rattle.bounded.specs.First.{first_in, holds_below}
use Rattle.bounded.proofs.First.{first_is, found}
use Rattle.bounded.specs.Lowest.{Lowest}
use Rattle.words.specs.Words.{natural, is_minus_one}
use Rattle.words.specs.WordOrders.{within, le_of, lt_of, of_le, of_lt, natural_of, from_zero, minus_one_of}
use Rattle.request_table.specs.GoodRows.{GoodRow}
use Rattle.request_table.specs.Limits.{greatest_rows, greatest_space, last_moment}
use Rattle.request_table.specs.Table.{rows, word, request}
use Rattle.access_rule.specs.Accesses.{count, write_of, access, allowed, reads, written, moment_before, good, bad_access}
use Rattle.access_rule.specs.GoodAccesses.{Reaches}
use Rattle.access_rule.proofs.GoodAccesses.{good_says, good_of}
use Rattle.access_rule.specs.GoodScripts.{GoodAccess, GoodScript, LivingByte}

-- ---- by the sign of a word

value_says : (z : ℤ) → is_minus_one z || leb (natural z) 255 ≡ true → (negsuc 0 ≤ℤ z) × (z ≤ℤ pos 255)
unfolding is_minus_one natural
value_says (pos n) e = (le_z_yes tt, le_of n 255 (leb-true n 255 e))
value_says (negsuc n) e = ⊎_elim (λ q. subst (λ (z : ℤ). (negsuc 0 ≤ℤ z) × (z ≤ℤ pos 255)) (sym (minus_one_of (negsuc n) q)) (le_z_yes tt, le_z_yes tt)) (λ q. absurd (omega (arith, leb-true 4294967295 255 q))) (either _ _ e)

value_of : (z : ℤ) → negsuc 0 ≤ℤ z → z ≤ℤ pos 255 → is_minus_one z || leb (natural z) 255 ≡ true
unfolding is_minus_one natural
value_of (pos n) p q = le-leb n 255 (of_le n 255 q)
value_of (negsuc n) p q = let e : n ≡ 0 = omega (arith, leb→le n 0 p.le) in rw e

-- ---- what a touch reads or writes, by its word

-- Whether it reads,
pub reads_is : (s : List ℤ) (k : ℕ) → reads (access s k) ≡ is_minus_one (word s k 3)
unfolding access
reads_is s k = go (is_minus_one (word s k 3)) refl
  where
    go : (b : Bool) → is_minus_one (word s k 3) ≡ b → reads (access s k) ≡ is_minus_one (word s k 3)
    go true e = rw (e, reads, write_of)
    go false e = rw (e, reads, write_of)

-- the value of one that does not,
pub written_is : (s : List ℤ) (k : ℕ) → reads (access s k) ≡ false → written (access s k) ≡ natural (word s k 3)
unfolding access
written_is s k e = rw (sym (reads_is s k) ∙ e, written, write_of)

-- and whether it is allowed.
pub allowed_is : (s : List ℤ) (k : ℕ) → allowed (access s k) ≡ is_minus_one (word s k 3) || leb (natural (word s k 3)) 255
unfolding access
allowed_is s k = go (is_minus_one (word s k 3)) refl
  where
    go : (b : Bool) → is_minus_one (word s k 3) ≡ b → allowed (access s k) ≡ is_minus_one (word s k 3) || leb (natural (word s k 3)) 255
    go true e = rw (e, allowed, reads, written, write_of)
    go false e = rw (e, allowed, reads, written, write_of)

-- ---- one touch of a table of good rows

module _ (g : ℕ) (t s : List ℤ) (rows_good : (r : ℕ) → r < rows t → GoodRow g t r) (few : rows t ≤ greatest_rows) where
  -- the words of a row that a touch names, as natural numbers
  size_is : (r : ℕ) → r < rows t → word t r 0 ≡ pos (natural (word t r 0))
  size_is r l = natural_of (word t r 0) (rows_good r l).size_from

  first_is_natural : (r : ℕ) → r < rows t → word t r 1 ≡ pos (natural (word t r 1))
  first_is_natural r l = natural_of (word t r 1) (rows_good r l).first_from

  last_is : (r : ℕ) → r < rows t → word t r 2 ≡ pos (natural (word t r 2))
  last_is r l = natural_of (word t r 2) (from_zero (word t r 1) (word t r 2) (rows_good r l).first_from (rows_good r l).first_to)

  last_small : (r : ℕ) → r < rows t → natural (word t r 2) ≤ last_moment
  last_small r l = of_le _ _ (subst (λ (z : ℤ). z ≤ℤ pos last_moment) (last_is r l) (rows_good r l).last_to)

  size_small : (r : ℕ) → r < rows t → natural (word t r 0) ≤ greatest_space
  size_small r l = of_le _ _ (subst (λ (z : ℤ). z ≤ℤ pos greatest_space) (size_is r l) (rows_good r l).size_to)

  -- What reaches a byte in natural numbers does so in signed ones,
  pub living_says : (k : ℕ) → Reaches t (access s k) → LivingByte t s k
  unfolding access request
  living_says k x =
      let r : ℕ = natural (word s k 1) in
      let n = x.named in
      let m = (within (word s k 0) last_moment (omega arith) (omega (arith, x.lasting, last_small r n))).is in
      let i = (within (word s k 2) greatest_space (omega arith) (omega (arith, x.inside, size_small r n))).is in
      let v = value_says (word s k 3) (sym (allowed_is s k) ∙ x.value) in
      record {
        row = r;
        names = (within (word s k 1) greatest_rows (omega arith) (omega (arith, n))).is;
        named = n;
        begun = subst (λ (z : ℤ). z ≤ℤ word s k 0) (sym (first_is_natural r n)) (subst (λ (z : ℤ). pos (natural (word t r 1)) ≤ℤ z) (sym m) (le_of _ _ x.begun));
        lasting = subst (λ (z : ℤ). z ≤ℤ word t r 2) (sym m) (subst (λ (z : ℤ). pos (natural (word s k 0)) ≤ℤ z) (sym (last_is r n)) (le_of _ _ x.lasting));
        index_from = subst (λ (z : ℤ). pos 0 ≤ℤ z) (sym i) (le_of 0 _ (omega arith));
        index_below = subst (λ (z : ℤ). z <ℤ word t r 0) (sym i) (subst (λ (z : ℤ). pos (natural (word s k 2)) <ℤ z) (sym (size_is r n)) (lt_of _ _ x.inside));
        value_from = v.0;
        value_to = v.1;
      }

  -- and the other way.
  pub living_of : (k : ℕ) → LivingByte t s k → Reaches t (access s k)
  unfolding access request natural
  living_of k x =
      let e : natural (word s k 1) ≡ x.row = ap natural x.names in
      let r = x.row in
      let n = x.named in
      let m = natural_of (word s k 0) (from_zero (word t r 1) (word s k 0) (rows_good r n).first_from x.begun) in
      let i = natural_of (word s k 2) x.index_from in
      let b = of_le _ _ (subst (λ (z : ℤ). z ≤ℤ pos (natural (word s k 0))) (first_is_natural r n) (subst (λ (z : ℤ). word t r 1 ≤ℤ z) m x.begun)) in
      let l = of_le _ _ (subst (λ (z : ℤ). z ≤ℤ pos (natural (word t r 2))) m (subst (λ (z : ℤ). word s k 0 ≤ℤ z) (last_is r n) x.lasting)) in
      let j = of_lt _ _ (subst (λ (z : ℤ). z <ℤ pos (natural (word t r 0))) i (subst (λ (z : ℤ). word s k 2 <ℤ z) (size_is r n) x.index_below)) in
      record {
        named = subst (λ (q : ℕ). q < rows t) (sym e) n;
        begun = subst (λ (q : ℕ). natural (word t q 1) ≤ natural (word s k 0)) (sym e) b;
        lasting = subst (λ (q : ℕ). natural (word s k 0) ≤ natural (word t q 2)) (sym e) l;
        inside = subst (λ (q : ℕ). natural (word s k 2) < natural (word t q 0)) (sym e) j;
        value = allowed_is s k ∙ value_of (word s k 3) x.value_from x.value_to;
      }

  -- the moment of a touch that reaches a byte is a natural number
  moment_is : (k : ℕ) → good t s k ≡ true → word s k 0 ≡ pos (natural (word s k 0))
  unfolding access request
  moment_is k e =
      let x = (good_says t s k e).1 in
      (within (word s k 0) last_moment (omega arith) (omega (arith, x.lasting, last_small (natural (word s k 1)) x.named))).is

  -- In a run of good touches no moment is above a later one.
  pub rising : (i j : ℕ) → i ≤ j → ((k : ℕ) → k ≤ j → good t s k ≡ true) → (access s i).moment.0 ≤ (access s j).moment.0
  unfolding moment_before
  rising i zero l f = let e : i ≡ 0 = omega arith in rw e (omega arith)
  rising i (suc j) l f =
      ⊎_elim (λ e. rw e (omega arith))
      (λ m. omega (arith, rising i j (le_of_suc-le-suc m) (λ k q. f k (omega arith)), (good_says t s (suc j) (f (suc j) (omega arith))).0))
      (eq-or-lt_of_le l)

  -- Where all touches before k are good by the test, touch k is good by the test exactly when it is good over signed words: one way,
  pub access_says : (k : ℕ) → ((i : ℕ) → i < k → good t s i ≡ true) → good t s k ≡ true → GoodAccess t s k
  unfolding access
  access_says k f e =
      record {
        moments = λ i l.
            subst (λ (z : ℤ). z ≤ℤ word s k 0) (sym (moment_is i (f i l)))
            (subst (λ (z : ℤ). pos (natural (word s i 0)) ≤ℤ z) (sym (moment_is k e)) (le_of _ _ (rising i k (omega arith) (λ j m. up_to j (eq-or-lt_of_le m)))));
        living = living_says k (good_says t s k e).1;
      }
    where
      up_to : (j : ℕ) → (j ≡ k) ⊎ (j < k) → good t s j ≡ true
      up_to j (inl q) = subst (λ (i : ℕ). good t s i ≡ true) (sym q) e
      up_to j (inr q) = f j q

  not_back : (k : ℕ) → ((i : ℕ) → i < k → good t s i ≡ true) → GoodAccess t s k → moment_before s k ≤ (access s k).moment.0
  unfolding moment_before access
  not_back zero f x = omega arith
  not_back (suc j) f x =
      let y = x.living in
      let m = natural_of (word s (suc j) 0) (from_zero (word t y.row 1) (word s (suc j) 0) (rows_good y.row y.named).first_from y.begun) in
      of_le _ _ (subst (λ (z : ℤ). z ≤ℤ pos (natural (word s (suc j) 0))) (moment_is j (f j (omega arith))) (subst (λ (z : ℤ). word s j 0 ≤ℤ z) m (x.moments j (omega arith))))

  -- and the other.
  pub access_of : (k : ℕ) → ((i : ℕ) → i < k → good t s i ≡ true) → GoodAccess t s k → good t s k ≡ true
  access_of k f x = good_of t s k (not_back k f x) (living_of k x.living)

  -- A script all of whose touches are good by the test is good over signed words,
  pub script_says : ((k : ℕ) → k < count s → good t s k ≡ true) → GoodScript t s
  script_says f =
      record {
        moments = λ i j l m. (access_says j (λ k q. f k (omega arith)) (f j m)).moments i l;
        living = λ k l. living_says k (good_says t s k (f k l)).1;
      }

  -- and the other way.
  pub script_of_lem : GoodScript t s → (k : ℕ) → k < count s → good t s k ≡ true
  script_of_lem x k l = below k (suc k) l (omega arith)
    where
      below : (k n : ℕ) → k < count s → k < n → good t s k ≡ true
      below k zero l m = absurd (omega arith)
      below k (suc n) l m =
          access_of k (λ i q. below i n (omega arith) (omega arith)) (record { moments = λ i q. x.moments i k q l; living = x.living k l })

  -- The lowest touch that the test calls bad is the lowest that is not good over signed words.
  pub lowest_bad : holds_below (bad_access t s) (count s) ≡ true → Lowest (λ k. GoodAccess t s k → ⊥) (count s) (first_in (bad_access t s) 0 (count s))
  lowest_bad e =
      record {
        within = (found (bad_access t s) (count s) e).0;
        here = λ x. contrary (access_of _ before x) (not-true _ (found (bad_access t s) (count s) e).1);
        below = λ k l f. f (access_says k (λ i m. before i (omega arith)) (before k l));
      }
    where
      before : (i : ℕ) → i < first_in (bad_access t s) 0 (count s) → good t s i ≡ true
      before i l = not-false _ ((first_is (bad_access t s) 0 (count s) (omega arith)).before i (omega arith) l)
