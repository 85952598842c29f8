-- Laws of the definitions of specs/ShapeOutcomes.antt.
use Rattle.std.specs.Prelude.{ℕ, ◌+◌, ◌*◌, ◌%◌, ◌<◌, ◌≤◌, Bool, true, false, not, List, ◌⊎◌, ◌≡◌, refl, ℤ, pos, negsuc, length, take, drop, ◌<ℤ◌}
use Rattle.std.proofs.Common.{inl, inr, sym, ◌∙◌, ap, subst, arith, lt-ltb, le-ltb, ne_eqb, eq-eqb, eqb-true}
use Rattle.std.proofs.lemmas.Bool.{not-false}
use Rattle.std.specs.Int.Signed.{lt_z_yes}
use Rattle.answer.specs.declared.Answer.{Answer}
use Rattle.bounded.proofs.Boolean.{lt_or_le, same_or_not, contrary}
use Rattle.bounded.proofs.Causes.{given, next}
use Rattle.bounded.specs.First.{holds_below}
use Rattle.bounded.proofs.First.{found, none_holds, first_none}
use Rattle.bounded.proofs.Lowest.{lowest_of}
use Rattle.request_table.specs.Limits.{greatest_rows}
use Rattle.tensor_sizes.specs.ByteSize.{byte_size_of}
use Rattle.words.specs.WordOrders.{lt_of}
use Rattle.words.specs.Words.{natural}
use Rattle.shape_rule.specs.ShapeAnswers.{Fitting}
use Rattle.shape_rule.proofs.ShapeAnswers.{bad_of, good_of, many_dimensions, few_dimensions, shape_refused, shapes_passed, lengths_given, lengths_stand, shapes_decide}
use Rattle.shape_rule.specs.ShapeTable.{shape_count, shape_word, dimension_count, tensor_size, bad_shape}
use Rattle.shape_rule.specs.Sized.{lengths_of, sized_of}
use Rattle.shape_rule.specs.ShapeOutcomes.{RowOutcome, ShapesOutcome, SizedOutcome, all_good, bad_shape_case, by_shape, lowest_bad, negative_count, not_whole, sized, too_many_case, too_many_dimensions, too_short}

-- So it is.
pub row_outcome : (t : List ℤ) (r : ℕ) → RowOutcome t r
unfolding natural
row_outcome t r = go (shape_word t r 1) refl (lt_or_le 8 (dimension_count t r))
  where
    go : (z : ℤ) → shape_word t r 1 ≡ z → (8 < dimension_count t r) ⊎ (dimension_count t r ≤ 8) → RowOutcome t r
    go (negsuc n) e s =
        let count : dimension_count t r ≡ 4294967295 = ap natural e in
        negative_count (subst (λ (z : ℤ). z <ℤ pos 0) (sym e) (lt_z_yes tt)) (sym (many_dimensions t r (omega (arith, count))))
    go (pos n) e (inl l) =
        let count : dimension_count t r ≡ n = ap natural e in
        too_many_dimensions (subst (λ (z : ℤ). pos 8 <ℤ z) (sym e) (lt_of 8 n (omega (arith, count, l)))) (sym (many_dimensions t r l))
    go (pos n) e (inr l) =
        let count : dimension_count t r ≡ n = ap natural e in
        by_shape n (omega (arith, count, l)) e (sym (few_dimensions t r l) ∙ ap (λ (k : ℕ). byte_size_of (take k (drop (r * 13 + 2) t)) (shape_word t r 0)) count)

bad_says : (t : List ℤ) (r : ℕ) → bad_shape t r ≡ true → (tensor_size t r).number ≡ 0 → ⊥
bad_says t r e z = contrary e (good_of t r z)

good_says : (t : List ℤ) (r : ℕ) → bad_shape t r ≡ false → (tensor_size t r).number ≡ 0
unfolding bad_shape
good_says t r e = eqb-true _ _ (not-false _ e)

-- So they are judged.
pub shapes_outcome : (t : List ℤ) → ShapesOutcome t
shapes_outcome t = go (holds_below (bad_shape t) (shape_count t)) refl
  where
    go : (b : Bool) → holds_below (bad_shape t) (shape_count t) ≡ b → ShapesOutcome t
    go true e =
        lowest_bad _ (lowest_of (bad_shape t) (shape_count t) (λ r m. bad_says t r) (λ r m f. bad_of t r f) e)
        (sym (shape_refused t refl (found (bad_shape t) (shape_count t) e).0))
    go false e =
        let none = none_holds (bad_shape t) (shape_count t) e in
        all_good (λ r l. good_says t r (none r l)) (sym (shapes_passed t refl (omega (arith, first_none (bad_shape t) (shape_count t) none))))

-- So a table is answered.
pub sized_outcome : (t : List ℤ) (room : ℕ) → SizedOutcome t room
sized_outcome t room = go (same_or_not (length t % 13) 0) (lt_or_le greatest_rows (shape_count t)) (lt_or_le room (shape_count t * 4)) (shapes_outcome t)
  where
    stands : (x : Answer) → (x.number ≡ 0 → ⊥) → x ≡ lengths_of t room → sized_of t room ≡ x
    stands x f e = sym (e ∙ lengths_stand t room (λ z. f (ap (λ (y : Answer). y.number) e ∙ z)))

    go : (length t % 13 ≡ 0) ⊎ (length t % 13 ≡ 0 → ⊥) → (greatest_rows < shape_count t) ⊎ (shape_count t ≤ greatest_rows) → (room < shape_count t * 4) ⊎ (shape_count t * 4 ≤ room)
        → ShapesOutcome t → SizedOutcome t room
    go (inr f) y z s = not_whole f (stands _ (λ e. omega arith) (lengths_given t room (given (ap not (ne_eqb _ _ f)))))
    go (inl e) (inl l) z s = too_many_case e l (stands _ (λ e. omega arith) (lengths_given t room (next (ap not (eq-eqb _ _ e)) (given (lt-ltb _ _ l)))))
    go (inl e) (inr l) (inl m) s =
        too_short e l m (stands _ (λ e. omega arith) (lengths_given t room (next (ap not (eq-eqb _ _ e)) (next (le-ltb _ _ l) (given (lt-ltb _ _ m))))))
    go (inl e) (inr l) (inr m) (lowest_bad a h d) = let f : Fitting t room = record { whole = e; few = l; roomy = m } in bad_shape_case a f h (sym (shapes_decide t room f) ∙ d)
    go (inl e) (inr l) (inr m) (all_good g d) = let f : Fitting t room = record { whole = e; few = l; roomy = m } in sized f g (sym (shapes_decide t room f) ∙ d)
