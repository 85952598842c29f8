-- A table with two entries for each index, as an answer table has "two for each tensor's life" (document 01, "Answer numbers").
--     two_each f g       entries 2t and 2t + 1 are f t and g t
-- A reader believes it by `two_first` and `two_second`. A loop that stores both turns by `two_more`.
use Rattle.std.specs.Prelude.{ℕ, ◌/◌, ◌%◌, eqb}
use Rattle.std.proofs.Math.Bool.{true, false}

-- Entries 2t and 2t + 1 are f t and g t.
unfoldable pub two_each : {A : Type 0} → (ℕ → A) → (ℕ → A) → ℕ → A
two_each f g i = elim (eqb (i % 2) 0) [ true ↦ f (i / 2) | false ↦ g (i / 2) ]
