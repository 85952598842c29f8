-- Law: "eight dimensions (those past the number are ignored)". Two tables that agree on a row's code, number of dimensions and so many dimensions give the
-- row one size, whatever stands in the others.
use Rattle.std.specs.Prelude.{ℕ, ◌+◌, ◌*◌, ◌-◌, ◌<◌, min, List, ◌≡◌, refl, ℤ, pos, length}
use Rattle.std.proofs.Common.{⊎_elim, sym, ◌∙◌, ap, ap₂, arith, length-take, length-drop, get_or-take, get_or-drop, ext_get_or}
use Rattle.bounded.proofs.Boolean.{lt_or_le}
use Rattle.tensor_sizes.specs.ByteSize.{greatest_dimensions, byte_size_of}
use Rattle.words.specs.Words.{natural, word_at}
use Rattle.shape_rule.proofs.ShapeAnswers.{many_dimensions, few_dimensions}
use Rattle.shape_rule.specs.ShapeTable.{shape_word, dimension_count, dimensions, tensor_size}

module _ (t u : List ℤ) (r : ℕ) (long : length t ≡ length u) (same : (k : ℕ) → k < 2 + dimension_count t r → shape_word t r k ≡ shape_word u r k) where
  same_count : dimension_count t r ≡ dimension_count u r
  same_count = ap natural (same 1 (omega arith))

  same_dimensions : dimensions t r ≡ dimensions u r
  same_dimensions =
      let first : length (dimensions t r) ≡ min (dimension_count t r) (length t - (r * 13 + 2)) = simp (length-take, length-drop) refl in
      let second : length (dimensions u r) ≡ min (dimension_count u r) (length u - (r * 13 + 2)) = simp (length-take, length-drop) refl in
      ext_get_or (pos 0) (dimensions t r) (dimensions u r) (omega (arith, first, second, long, same_count)) (λ k l.
      let m : k < dimension_count t r = omega (arith, first, l) in
      let place : r * 13 + 2 + k ≡ r * 13 + (2 + k) = omega arith in
      get_or-take _ _ k (pos 0) m
      ∙ get_or-drop (r * 13 + 2) t k (pos 0)
      ∙ ap (word_at t) place
      ∙ same (2 + k) (omega arith)
      ∙ ap (word_at u) (sym place)
      ∙ sym (get_or-drop (r * 13 + 2) u k (pos 0))
      ∙ sym (get_or-take (dimension_count u r) _ k (pos 0) (omega (arith, m, same_count))))

  -- The row's size is the same.
  pub past_ignored : tensor_size t r ≡ tensor_size u r
  past_ignored =
      ⊎_elim
      (λ l. sym (many_dimensions t r l) ∙ many_dimensions u r (omega (arith, l, same_count)))
      (λ l. sym (few_dimensions t r l) ∙ ap₂ byte_size_of same_dimensions (same 0 (omega arith)) ∙ few_dimensions u r (omega (arith, l, same_count)))
      (lt_or_le greatest_dimensions (dimension_count t r))
