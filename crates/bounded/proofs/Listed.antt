-- Laws of the definitions of specs/Listed.antt.
use Prim.Native.Nat.{ℕ, zero, suc, ◌+◌, ◌<◌, ◌≤◌}
use Rattle.std.specs.Prelude.{List, ◌≡◌, length, get_or, take}
use Rattle.std.proofs.Math.Path.{refl, ap}
use Rattle.std.proofs.Common.{sym, ◌∙◌, arith, length-take-le, get_or-take, ext_get_or}
use Rattle.bounded.specs.Replaced.{replaced}
use Rattle.bounded.proofs.Replaced.{replaced_length, replaced_at}
use Rattle.bounded.specs.Listed.{list_from}

module _ {A : Type 0} where
  -- It has as many entries as were asked for.
  pub from_length : (at : ℕ → A) (k m : ℕ) → length (list_from at k m) ≡ m
  unfolding list_from
  from_length at k zero = refl
  from_length at k (suc m) = ap suc (from_length at (suc k) m)

  -- Its entries are the function's.
  pub from_at : (at : ℕ → A) (k m i : ℕ) (d : A) → i < m → get_or (list_from at k m) i d ≡ at (k + i)
  unfolding list_from
  from_at at k zero i d h = absurd (omega arith)
  from_at at k (suc m) zero d h = ap at (omega arith)
  from_at at k (suc m) (suc i) d h = from_at at (suc k) m i d (omega arith) ∙ ap at (omega arith)

  -- The first entries of a list, once they are replaced.
  pub replaced_front : (at : ℕ → A) (n : ℕ) (xs : List A) → A → n ≤ length xs → take n (replaced at n xs) ≡ list_from at 0 n
  replaced_front at n xs d l =
      let long : length (take n (replaced at n xs)) ≡ n = length-take-le n (replaced at n xs) (omega (arith, replaced_length at n xs)) in
      ext_get_or d (take n (replaced at n xs)) (list_from at 0 n) (long ∙ sym (from_length at 0 n))
      (λ i h.
      let k : i < n = omega (arith, long) in
      get_or-take n (replaced at n xs) i d k ∙ replaced_at at n xs d i k l ∙ ap at (omega arith) ∙ sym (from_at at 0 n i d k))
