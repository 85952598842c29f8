-- Laws of the definitions of specs/ShapeAnswers.antt.
use Rattle.std.specs.Prelude.{ℕ, ◌+◌, ◌*◌, ◌<◌, ◌≤◌, true, false, List, ◌≡◌, ℤ, pos, length}
use Rattle.std.proofs.Math.Bool.{not}
use Rattle.std.proofs.Common.{⊎_elim, ◌∙◌, subst, arith}
use Rattle.std.proofs.Math.Path.{refl, sym, ap}
use borrow.Author.Tests.{ltb-false, le-ltb, lt-ltb, eqb-true, eq-eqb, ne_eqb, not-false}
use Rattle.answer.specs.Answer.{number_of, refused, refused_at, done_with, too_many}
use Rattle.answer.specs.declared.Answer.{Answer}
use Rattle.bounded.proofs.Boolean.{lt_or_le}
use Rattle.bounded.specs.Causes.{NoneHolds, AllRefuse, Gives}
use Rattle.bounded.proofs.Causes.{given, next, none_left, follows_more, passed, refused_stands}
use Rattle.bounded.specs.First.{first_in, holds_below}
use Rattle.bounded.specs.Replaced.{replaced}
use Rattle.request_table.specs.Limits.{greatest_space}
use Rattle.tensor_sizes.specs.ByteSize.{greatest_dimensions, byte_size_of}
use Rattle.tensor_sizes.proofs.SizeOutcomes.{need_within}
use Rattle.shape_rule.specs.ShapeTable.{shape_count, shape_word, type_code, dimension_count, dimensions, tensor_size, bad_shape}
use Rattle.shape_rule.specs.Sized.{request_word, request_entry, length_causes, shape_causes, lengths_of, shapes_of, sized_of, final_requests}
use Rattle.shape_rule.specs.ShapeAnswers.{Fitting}

-- A shape is bad where it is refused,
pub bad_of : (t : List ℤ) (r : ℕ) → ((tensor_size t r).number ≡ 0 → ⊥) → bad_shape t r ≡ true
unfolding bad_shape
bad_of t r f = ap not (ne_eqb _ _ f)

-- and good where it is done.
pub good_of : (t : List ℤ) (r : ℕ) → (tensor_size t r).number ≡ 0 → bad_shape t r ≡ false
unfolding bad_shape
good_of t r e = ap not (eq-eqb _ _ e)

-- ---- a row

module _ (t : List ℤ) (r : ℕ) where
  -- More than eight dimensions are refused,
  pub many_dimensions : greatest_dimensions < dimension_count t r → refused too_many ≡ tensor_size t r
  unfolding tensor_size
  many_dimensions l = rw (lt-ltb _ _ l, tensor_size)

  -- and of any others the shape and the type decide.
  pub few_dimensions : dimension_count t r ≤ greatest_dimensions → byte_size_of (dimensions t r) (type_code t r) ≡ tensor_size t r
  unfolding tensor_size
  few_dimensions l = rw (le-ltb _ _ l, tensor_size)

  -- No size is above the greatest.
  pub size_within : (tensor_size t r).need ≤ greatest_space
  size_within =
      ⊎_elim
      (λ l. subst (λ (x : Answer). x.need ≤ greatest_space) (many_dimensions l) (omega arith))
      (λ l. subst (λ (x : Answer). x.need ≤ greatest_space) (few_dimensions l) (need_within (dimensions t r) (type_code t r)))
      (lt_or_le greatest_dimensions (dimension_count t r))

  -- Column 0 of its request is the size,
  pub size_word : (column : ℕ) → column ≡ 0 → pos (tensor_size t r).need ≡ request_word t r column
  unfolding request_word
  size_word column e = rw (eq-eqb _ _ e, request_word)

  -- and any other the shape's own word.
  pub own_word : (column : ℕ) → (column ≡ 0 → ⊥) → shape_word t r (9 + column) ≡ request_word t r column
  unfolding request_word
  own_word column f = rw (ne_eqb _ _ f, request_word)

-- ---- the shapes

module _ (t : List ℤ) {r : ℕ} (first : r ≡ first_in (bad_shape t) 0 (shape_count t)) where
  -- The first bad one is told,
  pub shape_refused : r < shape_count t → refused_at (tensor_size t r).number r ≡ shapes_of t
  unfolding shapes_of holds_below
  shape_refused l =
      let told : Gives (shape_causes t) (done_with 0) _ = given (lt-ltb _ _ (rw first at l)) in
      ap (λ (k : ℕ). refused_at (tensor_size t k).number k) first ∙ told.is

  -- and where there is none, they pass.
  pub shapes_passed : shape_count t ≤ r → done_with 0 ≡ shapes_of t
  unfolding shapes_of holds_below
  shapes_passed l = let told : Gives (shape_causes t) (done_with 0) (done_with 0) = next (le-ltb _ _ (rw first at l)) none_left in told.is

-- ---- the lengths, and both

module _ (t : List ℤ) (room : ℕ) where
  -- What is given for the lengths, as the code goes through them, is their answer.
  pub lengths_given : {x : Answer} → Gives (length_causes t room) (done_with 0) x → x ≡ lengths_of t room
  unfolding lengths_of
  lengths_given g = g.is

  length_refuses : AllRefuse number_of (length_causes t room)
  length_refuses = (omega arith, (omega arith, (omega arith, tt)))

  -- They pass: they are as they must be.
  pub lengths_passed : (lengths_of t room).number ≡ 0 → Fitting t room
  unfolding lengths_of
  lengths_passed e =
      let n = (passed number_of (length_causes t room) (done_with 0) length_refuses e).0 in
      record { whole = eqb-true _ _ (not-false _ n.0); few = ltb-false _ _ n.1.0; roomy = ltb-false _ _ n.1.1.0 }

  -- A refusal of theirs stands;
  pub lengths_stand : ((lengths_of t room).number ≡ 0 → ⊥) → lengths_of t room ≡ sized_of t room
  unfolding lengths_of sized_of
  lengths_stand h = refused_stands number_of (length_causes t room) (shape_causes t) (done_with 0) (done_with 0) refl h

  -- past them the shapes decide.
  pub shapes_decide : Fitting t room → shapes_of t ≡ sized_of t room
  unfolding shapes_of sized_of
  shapes_decide f =
      let n : NoneHolds (length_causes t room) = (ap not (eq-eqb _ _ f.whole), (le-ltb _ _ f.few, (le-ltb _ _ f.roomy, tt))) in
      sym (follows_more (length_causes t room) (shape_causes t) (done_with 0) n)

-- ---- what is left in the end

module _ (t requests : List ℤ) where
  -- Done: the rows stand in the first entries.
  pub done_requests : (sized_of t (length requests)).number ≡ 0 → final_requests t requests ≡ replaced (request_entry t) (shape_count t * 4) requests
  unfolding final_requests
  done_requests e = rw (eq-eqb _ _ e, final_requests)

  -- Refused: all is as it was.
  pub refusal_keeps : ((sized_of t (length requests)).number ≡ 0 → ⊥) → final_requests t requests ≡ requests
  unfolding final_requests
  refusal_keeps f = rw (ne_eqb _ _ f, final_requests)
