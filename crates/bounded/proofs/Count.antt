-- Laws of the definitions of specs/Count.antt.
use Rattle.std.specs.Prelude.{ℕ, zero, suc, ◌+◌, ◌<◌, ◌≤◌, Bool, true, false, not, ◌&&◌, ◌≡◌, refl}
use Rattle.std.proofs.Common.{⊎_elim, ap, subst, eq-or-lt_of_le, le_of_suc-le-suc, add-one, arith}
use Rattle.bounded.proofs.Boolean.{contrary, refuted}
use Rattle.bounded.specs.First.{holds_below}
use Rattle.bounded.proofs.First.{none_holds}
use Rattle.bounded.specs.Count.{count, one}

-- A loop's start.
pub count_none : (p : ℕ → Bool) → 0 ≡ count p 0
unfolding count one
count_none p = refl

-- A loop's turn where the test holds.
pub count_yes : (p : ℕ → Bool) (n : ℕ) → p n ≡ true → count p n + 1 ≡ count p (n + 1)
unfolding count one
count_yes p n e = rw (add-one n) (rw e)

-- A loop's turn where it does not.
pub count_no : (p : ℕ → Bool) (n : ℕ) → p n ≡ false → count p n ≡ count p (n + 1)
unfolding count one
count_no p n e = rw (add-one n) (rw e (omega arith))

-- At most every index is counted.
pub count_most : (p : ℕ → Bool) (n : ℕ) → count p n ≤ n
unfolding count one
count_most p zero = omega arith
count_most p (suc n) = go (p n) (count_most p n)
  where
    go : (b : Bool) → count p n ≤ n → count p n + one b ≤ suc n
    go true h = omega arith
    go false h = omega arith

-- Every index is counted where the test holds throughout.
pub count_all : (p : ℕ → Bool) (n : ℕ) → ((k : ℕ) → k < n → p k ≡ true) → count p n ≡ n
unfolding count one
count_all p zero f = refl
count_all p (suc n) f = rw (f n (omega arith)) (let h = count_all p n (λ k l. f k (omega arith)) in omega arith)

-- None is counted where it holds nowhere.
pub count_zero : (p : ℕ → Bool) (n : ℕ) → ((k : ℕ) → k < n → p k ≡ false) → count p n ≡ 0
unfolding count one
count_zero p zero f = refl
count_zero p (suc n) f = rw (f n (omega arith)) (let h = count_zero p n (λ k l. f k (omega arith)) in omega arith)

-- Tests that agree below the bound count alike.
pub count_same : (p q : ℕ → Bool) (n : ℕ) → ((k : ℕ) → k < n → p k ≡ q k) → count p n ≡ count q n
unfolding count one
count_same p q zero f = refl
count_same p q (suc n) f = rw (f n (omega arith)) (ap (λ (m : ℕ). m + one (q n)) (count_same p q n (λ k l. f k (omega arith))))

-- What passes a test passes another or not: the two parts add up.
pub count_split : (p q : ℕ → Bool) (n : ℕ) → count p n ≡ count (λ k. p k && q k) n + count (λ k. p k && not (q k)) n
unfolding count one
count_split p q zero = refl
count_split p q (suc n) = go (p n) (q n) (count_split p q n)
  where
    go : (x y : Bool) → count p n ≡ count (λ k. p k && q k) n + count (λ k. p k && not (q k)) n
        → count p n + one x ≡ (count (λ k. p k && q k) n + one (x && y)) + (count (λ k. p k && not (q k)) n + one (x && not y))
    go true true h = omega arith
    go true false h = omega arith
    go false true h = omega arith
    go false false h = omega arith

-- Whatever is counted is counted by a test that lets more pass.
pub count_less : (p q : ℕ → Bool) (n : ℕ) → ((k : ℕ) → k < n → p k ≡ true → q k ≡ true) → count p n ≤ count q n
unfolding count one
count_less p q zero f = omega arith
count_less p q (suc n) f = go (p n) (q n) refl (f n (omega arith)) (count_less p q n (λ k l. f k (omega arith)))
  where
    go : (x y : Bool) → q n ≡ y → (x ≡ true → q n ≡ true) → count p n ≤ count q n → count p n + one x ≤ count q n + one y
    go true true e h l = omega arith
    go true false e h l = contrary (h refl) e
    go false true e h l = omega arith
    go false false e h l = omega arith

-- Where the wider test also lets an index pass that the narrower refuses, it counts more.
pub count_fewer : (p q : ℕ → Bool) (n j : ℕ) → ((k : ℕ) → k < n → p k ≡ true → q k ≡ true) → j < n → p j ≡ false → q j ≡ true → count p n < count q n
unfolding count one
count_fewer p q zero j f l a b = absurd (omega arith)
count_fewer p q (suc n) j f l a b =
    ⊎_elim
    (λ e. last (subst (λ (k : ℕ). p k ≡ false) e a) (subst (λ (k : ℕ). q k ≡ true) e b))
    (λ m. go (p n) (q n) refl (f n (omega arith)) (count_fewer p q n j (λ k l. f k (omega arith)) m a b))
    (eq-or-lt_of_le (le_of_suc-le-suc l))
  where
    last : p n ≡ false → q n ≡ true → count p n + one (p n) < count q n + one (q n)
    last x y = rw (x, y) (let h = count_less p q n (λ k l. f k (omega arith)) in omega arith)

    go : (x y : Bool) → q n ≡ y → (x ≡ true → q n ≡ true) → count p n < count q n → count p n + one x < count q n + one y
    go true true e h l = omega arith
    go true false e h l = contrary (h refl) e
    go false true e h l = omega arith
    go false false e h l = omega arith

-- A test that lets at most one index pass counts at most one.
pub count_one : (p : ℕ → Bool) (n : ℕ) → ((i j : ℕ) → i < n → j < n → p i ≡ true → p j ≡ true → i ≡ j) → count p n ≤ 1
unfolding count one
count_one p zero f = omega arith
count_one p (suc n) f = go (p n) refl (count_one p n (λ i j h l. f i j (omega arith) (omega arith)))
  where
    go : (b : Bool) → p n ≡ b → count p n ≤ 1 → count p n + one b ≤ 1
    go true e h = omega (arith, count_zero p n (λ k l. none k l (p k) refl))
      where
        none : (k : ℕ) → k < n → (b : Bool) → p k ≡ b → b ≡ false
        none k l true q = absurd (let z = f k n (omega arith) (omega arith) q e in omega arith)
        none k l false q = refl
    go false e h = omega arith

-- Something counted is found.
pub count_found : (p : ℕ → Bool) (n : ℕ) → 0 < count p n → holds_below p n ≡ true
count_found p n h = refuted _ (λ e. let z = count_zero p n (none_holds p n e) in omega arith)
