-- Law: what opening and each operation answer, and when, in plain terms. No two of an operation's cases hold together and one always does, so each
-- number is given exactly where it is stated. A refusal hands the same state back. What the next state is, the law of histories says.
use Rattle.std.specs.Prelude.{ℕ, ◌+◌, ◌%◌, ◌≤◌, ◌≡◌}
use Rattle.arena_sections.specs.declared.Sections.{Sections}

-- ---- opening

-- The bytes before the first multiple of the grid, from a start on.
pub record Lost (g start lost : ℕ) : Type 0 where
  pub reaches : (start + lost) % g ≡ 0
  pub least : (other : ℕ) → (start + other) % g ≡ 0 → lost ≤ other

-- ---- where allocations start

-- The highest multiple of the alignment from which so many bytes end at the tail or below it.
pub record HighestStart (s : Sections) (size a start : ℕ) : Type 0 where
  pub aligned : start % a ≡ 0
  pub fits : start + size ≤ s.tail
  pub highest : (other : ℕ) → other % a ≡ 0 → other + size ≤ s.tail → other ≤ start

-- The lowest multiple of the alignment that is above the temporaries.
pub record LowestStart (s : Sections) (a start : ℕ) : Type 0 where
  pub aligned : start % a ≡ 0
  pub above : s.temp ≤ start
  pub lowest : (other : ℕ) → other % a ≡ 0 → s.temp ≤ other → start ≤ other
