-- Laws of the definitions of specs/Colliding.antt.
use Prim.Native.Nat.{◌<◌, max}
use Rattle.std.specs.Prelude.{Bool, true, false, ◌&&◌, ◌≡◌, refl, leb}
use native.Mathlib.Omega.{arith}
use borrow.Author.Tests.{ltb-true, leb-true, lt-ltb, le-leb}
use Rattle.bounded.proofs.Boolean.{both, both_hold, contrary, same_test}
use Rattle.request_table.specs.Buffers.{end, nonempty, live_together, ends_after, share_byte, collides}
use Rattle.request_table.specs.declared.Buffer.{Buffer}
use Rattle.request_table.specs.Colliding.{Colliding, SharedByte}

module _ (a b : Buffer) where
  -- The test holds where it is so,
  pub collides_of : Colliding a b → collides a b ≡ true
  unfolding collides live_together share_byte
  collides_of c =
      both_hold _ _ (both_hold _ _ (lt-ltb 0 a.length c.a_nonempty) (lt-ltb 0 b.length c.b_nonempty))
      (both_hold _ _ (both_hold _ _ (le-leb a.first.0 b.last.0 c.a_begun) (le-leb b.first.0 a.last.0 c.b_begun))
      (both_hold _ _ (lt-ltb b.offset.0 (end a) c.b_below) (lt-ltb a.offset.0 (end b) c.a_below)))

  -- and says so where it holds.
  pub collides_says : collides a b ≡ true → Colliding a b
  unfolding collides live_together share_byte
  collides_says e =
      let x = both (nonempty a && nonempty b) (live_together a b && share_byte a b) e in
      let n = both (nonempty a) (nonempty b) x.0 in
      let y = both (live_together a b) (share_byte a b) x.1 in
      let l = both (leb a.first.0 b.last.0) (leb b.first.0 a.last.0) y.0 in
      let s = both (ends_after a b) (ends_after b a) y.1 in
      record {
        a_nonempty = ltb-true 0 a.length n.0;
        b_nonempty = ltb-true 0 b.length n.1;
        a_begun = leb-true a.first.0 b.last.0 l.0;
        b_begun = leb-true b.first.0 a.last.0 l.1;
        a_below = ltb-true a.offset.0 (end b) s.1;
        b_below = ltb-true b.offset.0 (end a) s.0;
      }

  -- It fails where it is not so,
  pub apart : (Colliding a b → ⊥) → collides a b ≡ false
  apart f = go (collides a b) refl
    where
      go : (x : Bool) → collides a b ≡ x → x ≡ false
      go true e = absurd (f (collides_says e))
      go false e = refl

  -- and only there.
  pub not_colliding : collides a b ≡ false → Colliding a b → ⊥
  not_colliding e c = contrary (collides_of c) e

  -- Two nonempty spans share a byte in the definition's sense exactly when some byte lies in both: one way,
  pub shared_says : 0 < a.length → 0 < b.length → share_byte a b ≡ true → SharedByte a b
  unfolding share_byte
  shared_says p q e =
      let s = both (ends_after a b) (ends_after b a) e in
      let x : b.offset.0 < end a = ltb-true _ _ s.0 in
      let y : a.offset.0 < end b = ltb-true _ _ s.1 in
      record { byte = max a.offset.0 b.offset.0; from_a = omega arith; to_a = omega arith; from_b = omega arith; to_b = omega arith }

  -- and the other.
  pub shared_of : SharedByte a b → share_byte a b ≡ true
  unfolding share_byte
  shared_of s = both_hold (ends_after a b) (ends_after b a) (lt-ltb b.offset.0 (end a) (omega arith)) (lt-ltb a.offset.0 (end b) (omega arith))

-- Which of the two is named first does not matter.
pub collides_either : (a b : Buffer) → collides a b ≡ collides b a
collides_either a b = same_test (collides a b) (collides b a) (λ e. swap a b (collides_says a b e)) (λ e. swap b a (collides_says b a e))
  where
    swap : (a b : Buffer) → Colliding a b → collides b a ≡ true
    swap a b c = collides_of b a (omega arith)
