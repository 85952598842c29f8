-- Laws of the definitions of specs/GoodSheets.antt.
use Rattle.std.specs.Prelude.{ℕ, zero, suc, ◌+◌, ◌*◌, ◌<◌, ◌≤◌, Bool, true, false, ◌&&◌, List, [], ◌∷◌, ◌≡◌, refl, get_or}
use Rattle.std.proofs.Math.Bool.{not}
use Rattle.std.proofs.Common.{sym, ◌∙◌, mul_assoc, mul-le-mul, arith}
use Rattle.std.proofs.Math.Path.{ap}
use Rattle.std.proofs.Math.Nat.{mul-le-mul_right, le_of_mul-le-mul_right}
use borrow.Author.Tests.{eqb-true, eqb-false, eq-eqb, ne_eqb, leb-true, le-leb, not-true}
use Rattle.std.proofs.Math.Dec.{leb, eqb}
use Rattle.std.proofs.Math.ListN.{length, get_or-eq_default}
use Rattle.bounded.proofs.Boolean.{both, both_hold}
use Rattle.bounded.specs.Causes.{◌⇒◌}
use Rattle.bounded.proofs.Causes.{by_causes}
use Rattle.request_table.specs.Limits.{greatest_rows}
use Rattle.sheet_rule.specs.Sheet.{marked, version, row_count, row_words, word_count, sheet_bytes, well_formed}
use Rattle.sheet_rule.specs.GoodSheets.{Form, Good, GoodSheet, requests, shapes}

-- A row of a form is so many words.
pub form_words : {number bytes : ℕ} → Form number bytes → row_words number * 4 ≡ bytes
unfolding row_words
form_words requests = refl
form_words shapes = refl

-- No row has more than thirteen.
pub few_words : (number : ℕ) → row_words number ≤ 13
unfolding row_words
few_words number = by_causes (λ (n : ℕ). n ≤ 13) ((eqb number 1 ⇒ 4) ∷ (eqb number 2 ⇒ 13) ∷ []) 0 (omega arith, (omega arith, tt)) (λ n. omega arith)

-- Version 1 has four,
pub request_words : {number : ℕ} → number ≡ 1 → 4 ≡ row_words number
unfolding row_words
request_words e = rw e

-- version 2 thirteen,
pub shape_words : {number : ℕ} → number ≡ 2 → 13 ≡ row_words number
unfolding row_words
shape_words e = rw e

-- and any other none.
pub no_words : {number : ℕ} → (number ≡ 1 → ⊥) → (number ≡ 2 → ⊥) → 0 ≡ row_words number
unfolding row_words
no_words {number} f g = rw (ne_eqb number 1 f, ne_eqb number 2 g)

-- Only a form's rows have any.
form_of : (number : ℕ) → (row_words number ≡ 0 → ⊥) → Form number (row_words number * 4)
unfolding row_words
form_of zero f = absurd (f refl)
form_of (suc zero) f = requests
form_of (suc (suc zero)) f = shapes
form_of (suc (suc (suc n))) f = absurd (f (sym (no_words {number = suc (suc (suc n))} (λ z. omega arith) (λ z. omega arith))))

some_words : {number bytes : ℕ} → Form number bytes → row_words number ≡ 0 → ⊥
unfolding row_words
some_words requests z = omega arith
some_words shapes z = omega arith

-- A sheet of fewer than three bytes has no mark.
pub unmarked : (sheet : List ℕ) → length sheet < 3 → false ≡ marked sheet
unfolding marked
unmarked sheet h = rw (get_or-eq_default sheet 0 {n = 2} (omega arith)) (go (eqb (get_or sheet 0 0) 65 && eqb (get_or sheet 1 0) 82))
  where
    go : (b : Bool) → false ≡ b && false
    go true = refl
    go false = refl

module _ (sheet : List ℕ) where
  -- The test says so,
  pub well_says : well_formed sheet ≡ true → Good sheet
  unfolding well_formed marked
  well_says e =
      let head = ((eqb (get_or sheet 0 0) 65 && eqb (get_or sheet 1 0) 82) && eqb (get_or sheet 2 0) 78) && not (eqb (row_words (version sheet)) 0) in
      let x = both head (eqb (length sheet) (sheet_bytes (version sheet) (row_count sheet)) && leb (length sheet) (sheet_bytes (version sheet) greatest_rows)) e in
      let y = both ((eqb (get_or sheet 0 0) 65 && eqb (get_or sheet 1 0) 82) && eqb (get_or sheet 2 0) 78) (not (eqb (row_words (version sheet)) 0)) x.0 in
      let m = both (eqb (get_or sheet 0 0) 65 && eqb (get_or sheet 1 0) 82) (eqb (get_or sheet 2 0) 78) y.0 in
      let n = both (eqb (get_or sheet 0 0) 65) (eqb (get_or sheet 1 0) 82) m.0 in
      let l = both (eqb (length sheet) (sheet_bytes (version sheet) (row_count sheet))) (leb (length sheet) (sheet_bytes (version sheet) greatest_rows)) x.1 in
      let long : length sheet ≡ 11 + row_count sheet * row_words (version sheet) * 4 = eqb-true _ _ l.0 in
      let limit : length sheet ≤ 11 + greatest_rows * row_words (version sheet) * 4 = leb-true _ _ l.1 in
      let some = eqb-false (row_words (version sheet)) 0 (not-true _ y.1) in
      record {
        number = version sheet;
        bytes = row_words (version sheet) * 4;
        form = form_of (version sheet) some;
        good = record {
          first_byte = eqb-true _ _ n.0;
          second_byte = eqb-true _ _ n.1;
          third_byte = eqb-true _ _ m.1;
          version_is = refl;
          whole = long ∙ ap (λ (k : ℕ). 11 + k) (mul_assoc (row_count sheet) (row_words (version sheet)) 4);
          few = le_of_mul-le-mul_right {k = row_words (version sheet)} (omega (arith, long, limit)) (omega (arith, some));
        };
      }

  -- and the other way.
  pub well_of : {number bytes : ℕ} → Form number bytes → GoodSheet sheet number bytes → well_formed sheet ≡ true
  unfolding well_formed marked
  well_of {number} f g =
      let words = ap row_words g.version_is in
      let some = ap not (ne_eqb (row_words (version sheet)) 0 (λ z. some_words f (sym words ∙ z))) in
      let row = ap (λ (n : ℕ). n * 4) words ∙ form_words f in
      let long = g.whole ∙ ap (λ (k : ℕ). 11 + row_count sheet * k) (sym row) ∙ ap (λ (k : ℕ). 11 + k) (sym (mul_assoc (row_count sheet) (row_words (version sheet)) 4)) in
      let limit : length sheet ≤ sheet_bytes (version sheet) greatest_rows = omega (arith, long, mul-le-mul_right (row_words (version sheet)) g.few) in
      both_hold _ _
      (both_hold _ _ (both_hold _ _ (both_hold _ _ (eq-eqb _ _ g.first_byte) (eq-eqb _ _ g.second_byte)) (eq-eqb _ _ g.third_byte)) some)
      (both_hold _ _ (eq-eqb _ _ long) (le-leb (length sheet) (sheet_bytes (version sheet) greatest_rows) limit))

  -- A well-formed sheet has a whole head, and no more words than the longest table.
  pub words_within : well_formed sheet ≡ true → (11 ≤ length sheet) × (word_count sheet ≤ greatest_rows * 13)
  words_within e = let w = well_says e in (omega (arith, w.good.whole), mul-le-mul w.good.few (few_words (version sheet)))

  -- Where its version is not the first, it is the second.
  pub second : well_formed sheet ≡ true → (version sheet ≡ 1 → ⊥) → version sheet ≡ 2
  second e f = go (well_says e).form (well_says e).good.version_is
    where
      go : {number bytes : ℕ} → Form number bytes → version sheet ≡ number → version sheet ≡ 2
      go requests v = absurd (f v)
      go shapes v = v
