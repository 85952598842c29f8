-- Laws of the definitions of specs/Ordered.antt.
use Rattle.std.specs.Prelude.{true, ◌&&◌, ◌≡◌}
use borrow.Author.Tests.{leb-true, le-leb}
use Rattle.std.proofs.Math.Dec.{leb}
use Rattle.bounded.proofs.Boolean.{both, both_hold}
use Rattle.arena_sections.specs.Sections.{greatest_length, valid}
use Rattle.arena_sections.specs.declared.Sections.{Sections}
use Rattle.arena_sections.specs.Ordered.{Ordered}

module _ (s : Sections) where
  -- What the test says,
  pub valid_says : valid s ≡ true → Ordered s
  unfolding valid
  valid_says e =
      let x = both (leb s.head s.temp && leb s.temp s.tail) (leb s.tail s.usable && leb s.usable greatest_length) e in
      let y = both (leb s.head s.temp) (leb s.temp s.tail) x.0 in
      let z = both (leb s.tail s.usable) (leb s.usable greatest_length) x.1 in
      record { head_temp = leb-true _ _ y.0; temp_tail = leb-true _ _ y.1; tail_usable = leb-true _ _ z.0; in_limit = leb-true _ _ z.1 }

  -- and the other way.
  pub valid_of : Ordered s → valid s ≡ true
  unfolding valid
  valid_of o =
      both_hold _ _
      (both_hold _ _ (le-leb _ _ o.head_temp) (le-leb _ _ o.temp_tail))
      (both_hold _ _ (le-leb _ _ o.tail_usable) (le-leb _ _ o.in_limit))
