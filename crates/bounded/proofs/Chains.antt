-- What chains of iterators over a range of indices compute, in the words of specs/: `max` after `map` the greatest value, `count` after `filter` a count.
use Prim.Native.Nat.{ℕ, zero, suc, ◌+◌, max}
use Rattle.std.specs.Prelude.{Bool, true, false, List, [], ◌∷◌, ◌++◌, Option, cond, length, ◌≡◌, refl}
use Rattle.std.proofs.Math.Path.{ap₂}
use mathlib.Core.List.{map-id}
use Rattle.std.specs.declared.ops.Range.{Range}
use Rattle.std.proofs.iter.Yields.{nat_range_steps}
use Rattle.std.specs.Iterator.{PicksByCmp, Drains}
use Rattle.std.specs.Ordering.{nat_cmp, max_by_ordering}
use Rattle.std.proofs.lemmas.Iterator.{YieldsList, YieldsList-from_range}
use Rattle.std.proofs.lemmas.Iterator.Consumers.{max_from_yields_List, count_from_yields_List}
use Rattle.std.proofs.Common.{sym, ◌∙◌, ap, arith, add-one, length-append, map}
use Rattle.std.specs.List.{range_with_len, filter, fold, reduce}
use Rattle.std.specs.Option.{unwrap_or}
use Rattle.std.proofs.lemmas.Iterator.Adapters.{option_map_id}
use Rattle.std.proofs.lemmas.List.FromFn.{map-range_with_len_more, filter_of_map_range_with_len_more}
use Rattle.bounded.specs.Greatest.{greatest}
use Rattle.bounded.specs.Count.{count, one}

-- ---- the greatest

-- The greatest of a list of numbers, or 0.
most : List ℕ → ℕ
most xs = unwrap_or (reduce max xs) 0

fold_more : (m : ℕ) (xs : List ℕ) (y : ℕ) → fold max m (xs ++ y ∷ []) ≡ max (fold max m xs) y
fold_more m [] y = refl
fold_more m (x ∷ xs) y = fold_more (max m x) xs y

most_more : (xs : List ℕ) (y : ℕ) → most (xs ++ y ∷ []) ≡ max (most xs) y
unfolding most
most_more [] y = omega arith
most_more (x ∷ xs) y = fold_more x xs y

most_is : (f : ℕ → ℕ) (n : ℕ) → most (map f (range_with_len 0 n)) ≡ greatest f n
unfolding most greatest
most_is f zero = refl
most_is f (suc n) =
    ap most (ap (λ k. map f (range_with_len 0 k)) (sym (add-one n)) ∙ map-range_with_len_more f 0 n n (omega arith)) ∙ most_more (map f (range_with_len 0 n)) (f n) ∙ ap (λ k. max k (f n)) (most_is f n)

-- ---- how many

one_is : (p : ℕ → Bool) (k : ℕ) (b : Bool) → p k ≡ b → length (cond (p k) (k ∷ []) []) ≡ one (p k)
unfolding one
one_is p k true e = rw e
one_is p k false e = rw e

same_is : (p : ℕ → Bool) (n : ℕ) → length (filter p (map (λ (k : ℕ). k) (range_with_len 0 n))) ≡ count p n
unfolding count
same_is p zero = refl
same_is p (suc n) =
    ap (λ k. length (filter p (map (λ (k : ℕ). k) (range_with_len 0 k)))) (sym (add-one n))
    ∙ ap length (filter_of_map_range_with_len_more p (λ (k : ℕ). k) 0 n n (omega arith))
    ∙ length-append (filter p (map (λ (k : ℕ). k) (range_with_len 0 n))) (cond (p n) (n ∷ []) [])
    ∙ ap₂ (λ (a b : ℕ). a + b) (same_is p n) (one_is p n (p n) refl)

counted_is : (p : ℕ → Bool) (n : ℕ) → length (filter p (range_with_len 0 n)) ≡ count p n
counted_is p n = ap (λ xs. length (filter p xs)) (sym (map-id (range_with_len 0 n))) ∙ same_is p n

-- ---- the chains

-- The range of the indices below n, where the code has n by another name.
pub indices : {s : Range ℕ} (n : ℕ) → s.start ≡ 0 → s.end ≡ n → YieldsList nat_range_steps (λ x. x) s (range_with_len 0 n)
indices n low high = YieldsList-from_range 0 n n (λ i. record { start = low i; end = high i }) (omega arith)

-- `max` of the values at the indices, with 0 where there is none.
pub greatest_by_max : {S : Type 0} {steps : S → Option ℕ → S → Type 0} (f : ℕ → ℕ) (n : ℕ) (s : S) (r : Option ℕ) {x : ℕ}
    → YieldsList steps (λ y. y) s (map f (range_with_len 0 n)) → PicksByCmp steps max_by_ordering nat_cmp s r → x ≡ unwrap_or r 0 → x ≡ greatest f n
unfolding most
greatest_by_max f n s r all picks e =
    e ∙ ap (λ o. unwrap_or o 0) (sym (option_map_id r) ∙ max_from_yields_List s r picks all) ∙ most_is f n

-- `count` of the indices that pass.
pub count_by_filter : {S : Type 0} {steps : S → Option ℕ → S → Type 0} (p : ℕ → Bool) (n : ℕ) (s : S) (r : ℕ)
    → YieldsList steps (λ y. y) s (filter p (range_with_len 0 n)) → (xs : List ℕ) × Drains steps s xs × (r ≡ length xs) → r ≡ count p n
count_by_filter p n s r all counts = count_from_yields_List s r counts all ∙ counted_is p n
