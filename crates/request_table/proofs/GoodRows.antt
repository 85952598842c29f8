-- Laws of the definitions of specs/GoodRows.antt.
use Rattle.std.specs.Prelude.{ℕ, Bool, Some, None, refl, ◌*◌, ◌/◌, ◌%◌, ◌≤◌, ◌&&◌, ◌||◌, List, ◌⊎◌, ◌≡◌, eqb, ℤ, ◌≤ℤ◌}
use Rattle.std.proofs.Math.Bool.{true, false, not, not-not}
use Rattle.std.proofs.Math.Logic.{inl, inr}
use Rattle.std.proofs.Common.{sym, ◌∙◌, arith}
use Rattle.std.proofs.Math.Path.{ap, subst}
use Rattle.std.proofs.Math.Nat.{div-add-mod', mul-mod_left}
use borrow.Author.Tests.{leb-true, le-leb, eqb-true, eq-eqb}
use Rattle.std.proofs.Math.Dec.{leb}
use Rattle.std.proofs.Math.IntN.{pos, negsuc}
use Rattle.std.specs.Option.{is_some}
use Rattle.bounded.proofs.Boolean.{both, both_hold, either}
use Rattle.words.specs.Words.{natural, is_minus_one}
use Rattle.words.specs.WordOrders.{within, le_of, of_le, natural_of, from_zero, minus_one_of}
use Rattle.request_table.specs.Limits.{greatest_space, last_moment}
use Rattle.request_table.specs.Table.{word, request, fixed, fixed_offset, fixed_at, passes, on_grid, good_size, good_lifetime, good_offset, good}
use Rattle.units.specs.declared.Offset.{Offset}
use Rattle.request_table.specs.declared.Request.{Request}
use Rattle.request_table.specs.GoodRows.{GoodRow, Multiple}

-- What the last word fixes, by whether it is −1.
fixed_by : (z : ℤ) (b : Bool) → is_minus_one z ≡ b → fixed_at z ≡ elim b [ true ↦ None | false ↦ Some (record { 0 = natural z }) ]
fixed_by z true e = rw (e, fixed_at)
fixed_by z false e = rw (e, fixed_at)

-- The offset of a row passes where its last word is −1 or passes itself.
offset_passes : (g : ℕ) (z : ℤ) (b : Bool) → is_minus_one z ≡ b
    → passes g (fixed_at z) ≡ b || (on_grid g (natural z) && leb (natural z) greatest_space)
offset_passes g z true e = ap (passes g) (fixed_by z true e)
offset_passes g z false e = ap (passes g) (fixed_by z false e)

module _ (g : ℕ) (t : List ℤ) (r : ℕ) where
  passes_is : good_offset g (request t r) ≡ is_minus_one (word t r 3) || (on_grid g (natural (word t r 3)) && leb (natural (word t r 3)) greatest_space)
  unfolding request
  passes_is = offset_passes g (word t r 3) (is_minus_one (word t r 3)) refl

  -- A row that the definition calls good is good in the document's words.
  pub good_says : good g (request t r) ≡ true → GoodRow g t r
  unfolding good request
  good_says e =
      let x = request t r in
      let a = both (good_size x) (good_lifetime x && good_offset g x) e in
      let b = both (good_lifetime x) (good_offset g x) a.1 in
      let l = both (leb x.first.0 x.last.0) (leb x.last.0 last_moment) b.0 in
      let size = within (word t r 0) greatest_space (omega arith) (leb-true _ _ a.0) in
      let last = within (word t r 2) last_moment (omega arith) (leb-true _ _ l.1) in
      let rising : natural (word t r 1) ≤ natural (word t r 2) = leb-true _ _ l.0 in
      let first = within (word t r 1) last_moment (omega arith) (omega (arith, last.small)) in
      record {
        size_from = subst (λ (z : ℤ). pos 0 ≤ℤ z) (sym size.is) (le_of 0 _ (omega arith));
        size_to = subst (λ (z : ℤ). z ≤ℤ pos greatest_space) (sym size.is) (le_of _ _ size.small);
        first_from = subst (λ (z : ℤ). pos 0 ≤ℤ z) (sym first.is) (le_of 0 _ (omega arith));
        first_to = subst (λ (z : ℤ). z ≤ℤ word t r 2) (sym first.is) (subst (λ (z : ℤ). pos (natural (word t r 1)) ≤ℤ z) (sym last.is) (le_of _ _ rising));
        last_to = subst (λ (z : ℤ). z ≤ℤ pos last_moment) (sym last.is) (le_of _ _ last.small);
        offset = placed (either _ _ (sym passes_is ∙ b.1));
      }
    where
      placed : (is_minus_one (word t r 3) ≡ true) ⊎ (eqb (natural (word t r 3) % g) 0 && leb (natural (word t r 3)) greatest_space ≡ true)
          → (word t r 3 ≡ negsuc 0) ⊎ Multiple g (word t r 3)
      placed (inl q) = inl (minus_one_of (word t r 3) q)
      placed (inr q) =
          let x = both _ _ q in
          let o = within (word t r 3) greatest_space (omega arith) (leb-true _ _ x.1) in
          let z : natural (word t r 3) / g * g ≡ natural (word t r 3) = omega (arith, div-add-mod' (natural (word t r 3)) g, eqb-true (natural (word t r 3) % g) 0 x.0) in
          inr (record { times = natural (word t r 3) / g; is = o.is ∙ ap pos (sym z); small = omega (arith, o.small) })

  -- And the other way.
  pub good_of : GoodRow g t r → good g (request t r) ≡ true
  unfolding good request is_minus_one natural
  good_of x =
      let size = natural_of (word t r 0) x.size_from in
      let first = natural_of (word t r 1) x.first_from in
      let last = natural_of (word t r 2) (from_zero (word t r 1) (word t r 2) x.first_from x.first_to) in
      both_hold _ _ (le-leb _ _ (of_le _ _ (subst (λ (z : ℤ). z ≤ℤ pos greatest_space) size x.size_to)))
      (both_hold _ _
      (both_hold _ _
      (le-leb _ _ (of_le _ _ (subst (λ (z : ℤ). z ≤ℤ pos (natural (word t r 2))) first (subst (λ (z : ℤ). word t r 1 ≤ℤ z) last x.first_to))))
      (le-leb _ _ (of_le _ _ (subst (λ (z : ℤ). z ≤ℤ pos last_moment) last x.last_to))))
      (passes_is ∙ placed x.offset))
    where
      placed : (word t r 3 ≡ negsuc 0) ⊎ Multiple g (word t r 3)
          → is_minus_one (word t r 3) || (eqb (natural (word t r 3) % g) 0 && leb (natural (word t r 3)) greatest_space) ≡ true
      placed (inl q) = rw q
      placed (inr m) = rw m.is (both_hold _ _ (eq-eqb (m.times * g % g) 0 (mul-mod_left m.times g)) (le-leb _ _ m.small))

-- A good row's size is within the limit,
pub good_size_lem : (g : ℕ) (x : Request) → good g x ≡ true → x.size ≤ greatest_space
unfolding good
good_size_lem g x e = leb-true _ _ (both (good_size x) _ e).0

-- and so is the offset of one that is fixed.
pub good_offset_lem : (g : ℕ) (x : Request) (o : Offset) → good g x ≡ true → x.offset ≡ Some o → o.0 ≤ greatest_space
unfolding good
good_offset_lem g x o e f =
    let a = (both (good_lifetime x) (good_offset g x) (both (good_size x) _ e).1).1 in
    let b = rw f at a in
    leb-true _ _ (both (on_grid g o.0) _ b).1

-- The offset of a good fixed row is a multiple of the grid.
pub good_on_grid : (g : ℕ) (x : Request) (o : Offset) → good g x ≡ true → x.offset ≡ Some o → o.0 % g ≡ 0
unfolding good
good_on_grid g x o e f =
    let a = (both (good_lifetime x) (good_offset g x) (both (good_size x) _ e).1).1 in
    let b = rw f at a in
    eqb-true _ _ (both (on_grid g o.0) _ b).0

-- A fixed row of a table has its last word for an offset,
pub fixed_has : (t : List ℤ) (r : ℕ) → fixed t r ≡ true → (request t r).offset ≡ Some (record { 0 = fixed_offset t r })
unfolding request
fixed_has t r e = fixed_by (word t r 3) false (sym (not-not (is_minus_one (word t r 3))) ∙ ap not e)

-- any other none.
pub loose_has : (t : List ℤ) (r : ℕ) → fixed t r ≡ false → (request t r).offset ≡ None
unfolding request
loose_has t r e = fixed_by (word t r 3) true (sym (not-not (is_minus_one (word t r 3))) ∙ ap not e)

-- Whether a row has an offset is whether it is fixed,
pub fixed_is : (t : List ℤ) (r : ℕ) → is_some (request t r).offset ≡ fixed t r
fixed_is t r = go (fixed t r) refl
  where
    go : (b : Bool) → fixed t r ≡ b → is_some (request t r).offset ≡ fixed t r
    go true e = ap is_some (fixed_has t r e) ∙ sym e
    go false e = ap is_some (loose_has t r e) ∙ sym e

-- and the offset that it has is that of its last word.
pub has_says : (t : List ℤ) (r : ℕ) (o : Offset) → (request t r).offset ≡ Some o → (fixed t r ≡ true) × (o ≡ record { 0 = fixed_offset t r })
has_says t r o e =
    let f : fixed t r ≡ true = sym (fixed_is t r) ∙ ap is_some e in
    let q : Some o ≡ Some (record { 0 = fixed_offset t r }) = sym e ∙ fixed_has t r f in
    (f, cc)

pub none_says : (t : List ℤ) (r : ℕ) → (request t r).offset ≡ None → fixed t r ≡ false
none_says t r e = sym (fixed_is t r) ∙ ap is_some e

-- So the offset of a good fixed row of a table is within the limit and a multiple of the grid.
pub fixed_small : (g : ℕ) (t : List ℤ) (r : ℕ) → good g (request t r) ≡ true → fixed t r ≡ true → fixed_offset t r ≤ greatest_space
fixed_small g t r e f = good_offset_lem g (request t r) (record { 0 = fixed_offset t r }) e (fixed_has t r f)

pub fixed_on_grid : (g : ℕ) (t : List ℤ) (r : ℕ) → good g (request t r) ≡ true → fixed t r ≡ true → fixed_offset t r % g ≡ 0
fixed_on_grid g t r e f = good_on_grid g (request t r) (record { 0 = fixed_offset t r }) e (fixed_has t r f)
