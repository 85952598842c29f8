-- What a search names, in plain terms: the lowest index of which something is so, and the least pair. "So" is any statement about indices; the test
-- that is searched decides it. `lowest_of` and `least_of` turn what a search found into these; nothing here mentions how it was found.
use Rattle.std.specs.Prelude.{ℕ, ◌<◌, ◌≤◌}

-- Index a is below n, it is so there, and at no lower index.
pub record Lowest (So : ℕ → Type 0) (n a : ℕ) : Type 0 where
  pub within : a < n
  pub here : So a
  pub below : (k : ℕ) → k < a → So k → ⊥

-- Index a is below n, it is so there, and at no higher index below n.
pub record Highest (So : ℕ → Type 0) (n a : ℕ) : Type 0 where
  pub within : a < n
  pub here : So a
  pub above : (k : ℕ) → a < k → k < n → So k → ⊥

-- It is so of a and b; of no pair with a lower first index, and of none with that first index and a lower second.
pub record LeastPair (So : ℕ → ℕ → Type 0) (a b : ℕ) : Type 0 where
  pub here : So a b
  pub first_least : (i j : ℕ) → So i j → a ≤ i
  pub second_least : (j : ℕ) → So a j → b ≤ j
