-- A list with its first n entries replaced, the rest as they were: what a done call leaves in an answer table.
--     replaced f n xs    entries 0 to n - 1 are f 0 .. f (n - 1)
-- A reader believes it by `replaced_length`, `replaced_at` and `replaced_past`. A loop starts by `replaced_none` and turns by `replaced_more`.
use Prim.Native.Nat.{ℕ, zero, suc}
use Rattle.std.specs.Prelude.{List, set}

-- The first n entries are f 0 .. f (n - 1), the rest stay.
unfoldable pub replaced : {A : Type 0} → (ℕ → A) → ℕ → List A → List A
replaced f zero xs = xs
replaced f (suc n) xs = set (replaced f n xs) n (f n)
