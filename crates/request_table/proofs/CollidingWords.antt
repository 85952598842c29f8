-- Laws of the definitions of specs/CollidingWords.antt.
use Rattle.std.specs.Prelude.{ℕ, zero, suc, ◌*◌, ◌/◌, ◌<◌, ◌≤◌, List, ◌≡◌, ℤ, pos, ◌≤ℤ◌, ◌<ℤ◌}
use Rattle.std.proofs.Common.{sym, subst, div-add-mod', le_antisymm, arith}
use Rattle.std.proofs.Math.Nat.{mul-mod_left}
use Rattle.alignment.proofs.Rounding.{up_multiple, up_holds, up_least, up_something, up_nothing}
use Rattle.words.specs.WordOrders.{le_of, lt_of, of_le, of_lt, natural_of, from_zero}
use Rattle.request_table.specs.Buffers.{occupied}
use Rattle.request_table.specs.GoodRows.{GoodRow}
use Rattle.request_table.specs.Table.{word, request}
use Rattle.request_table.specs.CollidingWords.{LeastMultiple}

-- Only one number is the least such multiple.
pub one_rounded : {g : ℕ} {z : ℤ} {m n : ℕ} → LeastMultiple g z m → LeastMultiple g z n → m ≡ n
one_rounded x y = le_antisymm (below x y) (below y x)
  where
    below : {g : ℕ} {z : ℤ} {m n : ℕ} → LeastMultiple g z m → LeastMultiple g z n → m ≤ n
    below {z} x y = omega (arith, x.least y.times (subst (λ (k : ℕ). z ≤ℤ pos k) y.is y.enough), y.is)

-- ---- the words of a good row

module _ (g : ℕ) (t : List ℤ) (r : ℕ) (good : GoodRow g t r) where
  -- Each is the number that it reads as.
  pub size_word : word t r 0 ≡ pos (request t r).size
  unfolding request
  size_word = natural_of (word t r 0) good.size_from

  pub first_word : word t r 1 ≡ pos (request t r).first.0
  unfolding request
  first_word = natural_of (word t r 1) good.first_from

  pub last_word : word t r 2 ≡ pos (request t r).last.0
  unfolding request
  last_word = natural_of (word t r 2) (from_zero (word t r 1) (word t r 2) good.first_from good.first_to)

  -- The occupied size is the size rounded up.
  pub occupied_rounded : 0 < g → LeastMultiple g (word t r 0) (occupied g (request t r).size)
  occupied_rounded h =
      let n : ℕ = occupied g (request t r).size in
      record {
        times = n / g;
        is = omega (arith, div-add-mod' n g, up_multiple g (request t r).size);
        enough = subst (λ (z : ℤ). z ≤ℤ pos n) (sym size_word) (le_of _ _ (up_holds g (request t r).size h));
        least = λ k l. up_least g (request t r).size h (k * g) (mul-mod_left k g) (of_le _ _ (subst (λ (z : ℤ). z ≤ℤ pos (k * g)) size_word l));
      }

  -- A row is nonempty in the definition's sense exactly when its size is above 0: one way,
  pub some_size : 0 < occupied g (request t r).size → pos 0 <ℤ word t r 0
  some_size l = subst (λ (z : ℤ). pos 0 <ℤ z) (sym size_word) (lt_of _ _ (some (request t r).size l))
    where
      some : (size : ℕ) → 0 < occupied g size → 0 < size
      some zero m = absurd (omega (arith, up_nothing g))
      some (suc n) m = omega arith

  -- and the other.
  pub some_occupied : 0 < g → pos 0 <ℤ word t r 0 → 0 < occupied g (request t r).size
  some_occupied h l = up_something g (request t r).size h (of_lt _ _ (subst (λ (z : ℤ). pos 0 <ℤ z) size_word l))
