-- A row at an offset, when two such buffers collide, and what a plan needs. A plan is a function from rows to offsets, whoever made it, so that
-- colliding and the need are the same for the planner, the inspector and the script.
use Rattle.std.specs.Prelude.{ℕ, ◌+◌, Bool, true, false, ◌&&◌, List, leb, ltb, ℤ}
use Rattle.alignment.specs.Rounding.{rounded_up}
use Rattle.bounded.specs.Greatest.{greatest}
use Rattle.units.specs.declared.Offset.{Offset}
use Rattle.request_table.specs.Table.{rows, request}
use Rattle.request_table.specs.declared.Request.{Request}
use Rattle.request_table.specs.declared.Buffer.{Buffer}

-- Document 01: "The occupied size is the size rounded up to a multiple of 16."
abbrev pub occupied : ℕ → ℕ → ℕ
occupied g size = rounded_up g size

-- "The span starts at the offset and has that length."
abbrev pub buffer : ℕ → Request → Offset → Buffer
buffer g x o = record { first = x.first; last = x.last; offset = o; length = occupied g x.size }

-- Row r of a table at an offset.
abbrev pub buffer_at : ℕ → List ℤ → ℕ → ℕ → Buffer
buffer_at g t r o = buffer g (request t r) (record { 0 = o })

-- The byte after the span.
abbrev pub end : Buffer → ℕ
end a = a.offset.0 + a.length

-- A row of size 0 is empty, and has no byte.
abbrev pub nonempty : Buffer → Bool
nonempty a = ltb 0 a.length

-- "Two rows live together when first of each ≤ last of the other. Both ends count."
unfoldable pub live_together : Buffer → Buffer → Bool
live_together a b = leb a.first.0 b.last.0 && leb b.first.0 a.last.0

-- The span of a ends after that of b starts.
abbrev pub ends_after : Buffer → Buffer → Bool
ends_after a b = ltb b.offset.0 (end a)

-- The spans share a byte: each ends after the other starts.
unfoldable pub share_byte : Buffer → Buffer → Bool
share_byte a b = ends_after a b && ends_after b a

-- "Two rows collide when both are nonempty, live together, and their spans share a byte."
unfoldable pub collides : Buffer → Buffer → Bool
collides a b = (nonempty a && nonempty b) && (live_together a b && share_byte a b)

-- Two rows of a table collide in a plan.
abbrev pub collide_in : ℕ → List ℤ → (ℕ → ℕ) → ℕ → ℕ → Bool
collide_in g t plan a b = collides (buffer_at g t a (plan a)) (buffer_at g t b (plan b))

-- The end of a nonempty span; an empty one counts for nothing.
unfoldable pub end_or_zero : Buffer → ℕ
end_or_zero a = elim (nonempty a) [ true ↦ end a | false ↦ 0 ]

-- "The need is the greatest end of a nonempty span, or 0."
unfoldable pub need : ℕ → List ℤ → (ℕ → ℕ) → ℕ
need g t plan = greatest (λ r. end_or_zero (buffer_at g t r (plan r))) (rows t)
