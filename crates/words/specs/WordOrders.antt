-- Signed words and the natural numbers that they read as: what a limit on the one says of the other.
use Rattle.std.specs.Prelude.{ℕ, ◌<◌, ◌≤◌, true, ◌≡◌, refl, T, ℤ, pos, negsuc, ◌≤ℤ◌, ◌<ℤ◌}
use Rattle.std.proofs.Common.{sym, ◌∙◌, ap, subst, arith, le-leb, lt-ltb, eqb-true, leb→le, ltb→lt}
use Rattle.std.specs.Int.Signed.{le_z_yes, lt_z_yes}
use Rattle.words.specs.Words.{natural, is_minus_one}

-- A word within a limit is a natural number within it.
pub record Within (z : ℤ) (high : ℕ) : Type 0 where
  pub is : z ≡ pos (natural z)
  pub small : natural z ≤ high

-- Whatever reads as a number within a limit is one, since a negative word reads as a number above every limit.
pub within : (z : ℤ) (high : ℕ) → high < 4294967295 → natural z ≤ high → Within z high
unfolding natural
within (pos n) high l h = record { is = refl; small = h }
within (negsuc n) high l h = absurd (omega arith)

-- The order of natural numbers is that of the words,
pub le_of : (m n : ℕ) → m ≤ n → pos m ≤ℤ pos n
le_of m n h = le_z_yes (subst T (sym (le-leb m n h)) tt)

-- also the strict one,
pub lt_of : (m n : ℕ) → m < n → pos m <ℤ pos n
lt_of m n h = lt_z_yes (subst T (sym (lt-ltb m n h)) tt)

-- and the other way.
pub of_le : (m n : ℕ) → pos m ≤ℤ pos n → m ≤ n
of_le m n h = leb→le m n h.le

-- Of the strict one too.
pub of_lt : (m n : ℕ) → pos m <ℤ pos n → m < n
of_lt m n h = ltb→lt m n h.lt

-- A word from 0 on is its own natural number.
pub natural_of : (z : ℤ) → pos 0 ≤ℤ z → z ≡ pos (natural z)
unfolding natural
natural_of (pos n) h = refl
natural_of (negsuc n) h = absurd h.le

-- What is at least a word from 0 on is from 0 on.
pub from_zero : (a b : ℤ) → pos 0 ≤ℤ a → a ≤ℤ b → pos 0 ≤ℤ b
from_zero a (pos n) p q = le_of 0 n (omega arith)
from_zero (pos m) (negsuc n) p q = absurd q.le
from_zero (negsuc m) (negsuc n) p q = absurd p.le

-- What is at most a word up to a number is up to it too.
pub up_to : (a b : ℤ) (n : ℕ) → a ≤ℤ b → b ≤ℤ pos n → a ≤ℤ pos n
up_to (pos k) (pos m) n p q = le_of k n (omega (arith, of_le k m p, of_le m n q))
up_to (pos k) (negsuc m) n p q = absurd p.le
up_to (negsuc k) b n p q = le_z_yes tt

-- The test for −1 says so.
pub minus_one_of : (z : ℤ) → is_minus_one z ≡ true → z ≡ negsuc 0
unfolding is_minus_one
minus_one_of (pos n) e = absurd (let w : ◌≡◌ {A = ℕ} 0 1 = cc in omega arith)
minus_one_of (negsuc n) e = ap negsuc (eqb-true n 0 e)

-- A word that is some natural number is the one that it reads as.
pub natural_word : {x : ℤ} {n : ℕ} → x ≡ pos n → x ≡ pos (natural x)
unfolding natural
natural_word e = e ∙ ap pos (sym (ap natural e))

-- Two such words that read as one number are one word.
pub one_word : (x y : ℤ) → x ≡ pos (natural x) → y ≡ pos (natural y) → natural x ≡ natural y → x ≡ y
one_word x y p q e = p ∙ ap pos e ∙ sym q
