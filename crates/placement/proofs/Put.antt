-- Laws of the definitions of specs/Put.antt.
use Rattle.std.specs.Prelude.{ℕ, ◌<◌, Bool, true, false, ◌&&◌, ◌||◌, List, ◌⊎◌, ◌≡◌, refl, ℤ}
use Rattle.std.proofs.Math.Bool.{or-true}
use Rattle.std.proofs.Common.{inl, inr, sym, ◌∙◌, ap, eq-eqb, ne_eqb}
use Rattle.bounded.proofs.Boolean.{both, both_hold, either, contrary, same_test, same_or_not}
use Rattle.bounded.specs.First.{first_in, holds_below}
use Rattle.bounded.proofs.First.{found, some_found}
use Rattle.request_table.specs.Buffers.{buffer_at}
use Rattle.request_table.specs.Table.{rows}
use Rattle.request_table.specs.declared.Buffer.{Buffer}
use Rattle.placement.specs.Placing.{Placing, put}
use Rattle.placement.specs.Put.{placed_holds}

-- The offset that was put is found there,
pub put_there : (s : Placing) (r o b : ℕ) → b ≡ r → (put s r o).offset b ≡ o
unfolding put
put_there s r o b e = rw (eq-eqb b r e, put)

-- and every other stays.
pub put_elsewhere : (s : Placing) (r o b : ℕ) → (b ≡ r → ⊥) → (put s r o).offset b ≡ s.offset b
unfolding put
put_elsewhere s r o b d = rw (ne_eqb b r d, put)

-- So with what is placed.
pub placed_there : (s : Placing) (r o b : ℕ) → b ≡ r → (put s r o).placed b ≡ true
unfolding put
placed_there s r o b e = rw (eq-eqb b r e)

-- Every other row is placed or not as before.
pub placed_elsewhere : (s : Placing) (r o b : ℕ) → (b ≡ r → ⊥) → (put s r o).placed b ≡ s.placed b
unfolding put
placed_elsewhere s r o b d = rw (ne_eqb b r d)

-- A row more: a test holds of some placed row exactly where it holds of the new one or held before.
pub put_holds : (g : ℕ) (t : List ℤ) (s : Placing) (r o : ℕ) → r < rows t → s.placed r ≡ false → (test : Buffer → Bool)
    → placed_holds g t (put s r o) test ≡ test (buffer_at g t r o) || placed_holds g t s test
put_holds g t s r o l n test = same_test _ _ down (λ e. up (either (test (buffer_at g t r o)) (placed_holds g t s test) e))
  where
    before : ℕ → Bool
    before b = s.placed b && test (buffer_at g t b (s.offset b))

    after : ℕ → Bool
    after b = (put s r o).placed b && test (buffer_at g t b ((put s r o).offset b))

    other : (b : ℕ) → (b ≡ r → ⊥) → after b ≡ before b
    other b d =
        ap (λ (x : Bool). x && test (buffer_at g t b ((put s r o).offset b))) (placed_elsewhere s r o b d)
        ∙ ap (λ (x : ℕ). s.placed b && test (buffer_at g t b x)) (put_elsewhere s r o b d)

    down : holds_below after (rows t) ≡ true → test (buffer_at g t r o) || holds_below before (rows t) ≡ true
    down e = let x = found after (rows t) e in go (first_in after 0 (rows t)) x.0 x.1 (same_or_not (first_in after 0 (rows t)) r)
      where
        go : (b : ℕ) → b < rows t → after b ≡ true → (b ≡ r) ⊎ (b ≡ r → ⊥) → test (buffer_at g t r o) || holds_below before (rows t) ≡ true
        go b m q (inl s') =
            let y = (both ((put s r o).placed b) _ q).1 in
            let z : test (buffer_at g t r o) ≡ true = ap (λ (i : ℕ). test (buffer_at g t i o)) (sym s') ∙ ap (λ (i : ℕ). test (buffer_at g t b i)) (sym (put_there s r o b s')) ∙ y in
            rw z
        go b m q (inr d) = ap (λ (x : Bool). test (buffer_at g t r o) || x) (some_found before (rows t) b m (sym (other b d) ∙ q)) ∙ or-true (test (buffer_at g t r o))

    up : (test (buffer_at g t r o) ≡ true) ⊎ (holds_below before (rows t) ≡ true) → holds_below after (rows t) ≡ true
    up (inl e) =
        some_found after (rows t) r l
        (both_hold ((put s r o).placed r) _ (placed_there s r o r refl) (ap (λ (i : ℕ). test (buffer_at g t r i)) (put_there s r o r refl) ∙ e))
    up (inr e) =
        let x = found before (rows t) e in
        let b : ℕ = first_in before 0 (rows t) in
        some_found after (rows t) b x.0 (other b (λ q. contrary (both (s.placed b) _ x.1).0 (ap s.placed q ∙ n)) ∙ x.1)
