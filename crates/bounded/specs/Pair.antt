-- The first pair of indices a < b below a bound at which a test of two holds: the least a, then the least b.
--     pair_below c n     whether there is such a pair
--     pair_first c n     its first index
--     pair_second c n    its second
-- For two nested scans, the outer at a and the inner at b: `Outer` and `Inner`, with `inner_out`, `inner_hit` and `outer_out` for their ends.
use Prim.Native.Nat.{ℕ, ◌+◌, ◌<◌}
use Rattle.std.specs.Prelude.{Bool, false, ◌≡◌}
use Rattle.std.proofs.Math.Bool.{true}
use Rattle.std.proofs.Math.Dec.{ltb}
use Rattle.bounded.specs.First.{first_in, holds_below, Scan}

-- The least b above a and below n with c a b, else n.
unfoldable pub partner : (ℕ → ℕ → Bool) → ℕ → ℕ → ℕ
partner c n a = first_in (c a) (a + 1) n

-- Whether a is the first of some pair.
unfoldable pub has_partner : (ℕ → ℕ → Bool) → ℕ → ℕ → Bool
has_partner c n a = ltb (partner c n a) n

-- Whether there is a pair.
unfoldable pub pair_below : (ℕ → ℕ → Bool) → ℕ → Bool
pair_below c n = holds_below (has_partner c n) n

-- The least first index of a pair.
unfoldable pub pair_first : (ℕ → ℕ → Bool) → ℕ → ℕ
pair_first c n = first_in (has_partner c n) 0 n

-- The least second index with that first one.
unfoldable pub pair_second : (ℕ → ℕ → Bool) → ℕ → ℕ
pair_second c n = partner c n (pair_first c n)

-- The least pair, without a search: it passes, no pair has a lower first index, and none with that first index a lower second.
pub record IsLeastPair (c : ℕ → ℕ → Bool) (n a b : ℕ) : Type 0 where
  pub rising : a < b
  pub within : b < n
  pub passes : c a b ≡ true
  pub first_least : (i j : ℕ) → i < a → i < j → j < n → c i j ≡ false
  pub second_least : (j : ℕ) → a < j → j < b → c a j ≡ false

-- ---- for two nested loops

-- The outer scan has come to a and found nothing.
abbrev pub Outer : (ℕ → ℕ → Bool) → ℕ → ℕ → Type 0
Outer c n a = Scan (has_partner c n) 0 n a

-- The inner scan of a has come to b and found nothing.
abbrev pub Inner : (ℕ → ℕ → Bool) → ℕ → ℕ → ℕ → Type 0
Inner c n a b = Outer c n a × Scan (c a) (a + 1) n b
