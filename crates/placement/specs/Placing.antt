-- Placing rows one after the other (document 01, "Requests and the greedy rule"). The order is an argument: the greedy planner's is one of many.
-- No walk is named here: a row takes the lowest offset at which it collides with no row already placed, and `LowestFree` says what that means.
use Rattle.std.specs.Prelude.{ℕ, zero, suc, Bool, true, false, not, ◌&&◌, ◌||◌, List, eqb, ℤ, length, get_or}
use Rattle.bounded.specs.First.{first_in, holds_below}
use Rattle.bounded.specs.Greatest.{greatest}
use Rattle.request_table.specs.Buffers.{buffer_at, collides, end_or_zero}
use Rattle.request_table.specs.Table.{rows, fixed, fixed_offset}

-- Which rows are placed, and the offset of each.
pub record Placing : Type 0 where
  pub placed : ℕ → Bool
  pub offset : ℕ → ℕ

-- Nothing is placed yet.
abbrev pub nothing : Placing
nothing = record { placed = λ _. false; offset = λ _. 0 }

-- Row r is placed at offset o.
unfoldable pub put : Placing → ℕ → ℕ → Placing
put s r o = record { placed = λ b. eqb b r || s.placed b; offset = λ b. elim (eqb b r) [ true ↦ o | false ↦ s.offset b ] }

-- Row r at offset o collides with row b, which is already placed.
abbrev pub blocks : ℕ → List ℤ → Placing → ℕ → ℕ → ℕ → Bool
blocks g t s r o b = s.placed b && collides (buffer_at g t r o) (buffer_at g t b (s.offset b))

-- "it collides with no row already placed"
unfoldable pub free : ℕ → List ℤ → Placing → ℕ → ℕ → Bool
free g t s r o = not (holds_below (blocks g t s r o) (rows t))

-- The greatest end of the rows already placed: from there on every row is free.
unfoldable pub top : ℕ → List ℤ → Placing → ℕ
top g t s = greatest (λ b. elim (s.placed b) [ true ↦ end_or_zero (buffer_at g t b (s.offset b)) | false ↦ 0 ]) (rows t)

-- "the lowest offset, 0 or above, at which it collides with no row already placed"
unfoldable pub lowest : ℕ → List ℤ → Placing → ℕ → ℕ
lowest g t s r = first_in (free g t s r) 0 (top g t s)

-- "Fixed rows take their offsets", and each of the others takes the lowest.
unfoldable pub offset_for : ℕ → List ℤ → Placing → ℕ → ℕ
offset_for g t s r = elim (fixed t r) [ true ↦ fixed_offset t r | false ↦ lowest g t s r ]

-- The first k rows of the order are placed, one after the other.
unfoldable pub placing : ℕ → List ℤ → List ℕ → ℕ → Placing
placing g t order zero = nothing
placing g t order (suc k) = put (placing g t order k) (get_or order k 0) (offset_for g t (placing g t order k) (get_or order k 0))

-- The plan that placing the rows of the order makes.
unfoldable pub place : ℕ → List ℤ → List ℕ → ℕ → ℕ
place g t order = (placing g t order (length order)).offset
