-- Laws of `found_in`, the search as an option: what the library's `find` over a range gives, and what a caller learns of each case.
use Prim.Native.Nat.{ℕ, ◌<◌, ◌≤◌}
use Rattle.std.proofs.Math.Path.{ap₂}
use Rattle.std.specs.Prelude.{List, Bool, true, false, Option, Some, None, ◌≡◌}
use Rattle.bounded.proofs.Boolean.{lt_or_le}
use Rattle.std.proofs.Common.{⊎_elim, sym, ◌∙◌, ap, arith}
use Rattle.std.specs.declared.ops.Range.{Range}
use Rattle.std.proofs.iter.Yields.{nat_range_steps}
use borrow.Author.Tests.{lt-ltb, le-ltb}
use Rattle.std.specs.Bool.{⊤}
use Rattle.std.specs.Option.{MatchOption, option_map}
use Rattle.std.specs.Iterator.{YieldsThen}
use Rattle.std.specs.Fn.{CalledAt}
use Rattle.std.specs.List.{FoldsTo}
use denote.Param.Members.{Mut}
use denote.Ref.{Bor}
use Rattle.std.proofs.lemmas.Iterator.{first_from_Range}
use Rattle.bounded.specs.First.{first_in, found_of, found_in}
use Rattle.bounded.proofs.First.{one_first}

-- Where the search gave an index below n, that index; where it gave n, none.
pub found_below : (r n : ℕ) → r < n → found_of r n ≡ Some r
unfolding found_of
found_below r n l = rw (lt-ltb r n l, found_of)

pub found_past : (r n : ℕ) → n ≤ r → found_of r n ≡ None
unfolding found_of
found_past r n l = rw (le-ltb r n l, found_of)

-- What a caller learns of an index that was found, by whatever name f gives it,
pub found_some : {A : Type 0} (f : ℕ → A) (r n : ℕ) (y : A) → option_map f (found_of r n) ≡ Some y → (r < n) × (f r ≡ y)
found_some f r n y e =
    ⊎_elim
    (λ l. let q : Some (f r) ≡ Some y = ap (option_map f) (sym (found_below r n l)) ∙ e in (l, cc))
    (λ l. let q : None ≡ Some y = ap (option_map f) (sym (found_past r n l)) ∙ e in cc)
    (lt_or_le r n)

-- and of none.
pub found_none : {A : Type 0} (f : ℕ → A) (r n : ℕ) → option_map f (found_of r n) ≡ None → n ≤ r
found_none f r n e =
    ⊎_elim
    (λ l. let q : Some (f r) ≡ None = ap (option_map f) (sym (found_below r n l)) ∙ e in cc)
    (λ l. l)
    (lt_or_le r n)

-- What is found, as the code sees it: a first index that passes, or none that does.
found_is : (p : ℕ → Bool) (s n : ℕ) (r : Option ℕ) → s ≤ n
    → MatchOption r ((k : ℕ) → s ≤ k → k < n → p k ≡ false) (λ i. (s ≤ i) × (i < n) × (p i ≡ true) × ((k : ℕ) → s ≤ k → k < i → p k ≡ false))
    → r ≡ found_in p s n
found_is p s n None l h =
    let e = one_first p s n n record { low = l; high = omega arith; before = h; at = λ q. absurd (omega arith) } in
    sym (found_past (first_in p s n) n (omega (arith, e)))
found_is p s n (Some i) l h =
    let e = one_first p s n i record { low = h.0; high = omega arith; before = h.3; at = λ q. h.2 } in
    let m : i < n = h.1 in
    sym (found_below (first_in p s n) n (omega (arith, e, m)) ∙ ap (λ (k : ℕ). Some k) e)

-- `find` over a range of indices, with a closure that computes the test and changes nothing.
pub found_by_find : {F : Type 0} {g : Mut F (Bor ℕ × Unit {0}) Bool} (p : ℕ → Bool) (s u : Range ℕ) (f : F) (r : Option ℕ) → s.start ≤ s.end
    → (xs : List ℕ) × (j : F) × YieldsThen nat_range_steps s xs r u × FoldsTo (λ a x b. CalledAt g a x false b) f xs j × MatchOption r ⊤ (λ x. (h : F) × CalledAt g j x true h)
    → ((x : ℕ) (b : Bool) (q : F) → CalledAt g f x b q → (q ≡ f) × (b ≡ p x))
    → r ≡ found_in p s.start s.end
found_by_find p s u f r l ran calls =
    found_is p s.start s.end r l
    (first_from_Range s u f r (λ x. p x ≡ true) (λ x. p x ≡ false) ran
    (λ x q c. sym (calls x true q c).1)
    (λ x q c. ((calls x false q c).0, sym (calls x false q c).1)))

-- The same from index 0 on, up to a bound that the code may have by another name.
pub found_up_to : {F : Type 0} {g : Mut F (Bor ℕ × Unit {0}) Bool} (p : ℕ → Bool) (n : ℕ) (s u : Range ℕ) (f : F) (r : Option ℕ) → s.start ≡ 0 → s.end ≡ n
    → (xs : List ℕ) × (j : F) × YieldsThen nat_range_steps s xs r u × FoldsTo (λ a x b. CalledAt g a x false b) f xs j × MatchOption r ⊤ (λ x. (h : F) × CalledAt g j x true h)
    → ((x : ℕ) (b : Bool) (q : F) → CalledAt g f x b q → (q ≡ f) × (b ≡ p x))
    → r ≡ found_in p 0 n
found_up_to p n s u f r low high ran calls = found_by_find p s u f r (omega (arith, low)) ran calls ∙ ap₂ (λ (a b : ℕ). found_in p a b) low high
