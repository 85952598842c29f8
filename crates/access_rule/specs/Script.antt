-- The touch script's answer and what it leaves (document 01, "The desk's order of checks"): "Order: 1 for either table, then 2 for either; 3 for the
-- proposal or the byte answers; 4, 5, 8, 9, 7, 10; 12; 11. The whole script is judged before the first touch." `held` is the length of the lent arena,
-- `room` that of the lent table of byte answers.
use Rattle.std.specs.Prelude.{ℕ, Bool, true, false, not, ◌||◌, List, [], ◌∷◌, ◌++◌, ltb, eqb, ℤ, length}
use Rattle.answer.specs.declared.Answer.{Answer}
use Rattle.answer.specs.Answer as A
use Rattle.bounded.specs.Causes.{Cause, ◌⇒◌, first_cause}
use Rattle.bounded.specs.First.{first_in, holds_below}
use Rattle.bounded.specs.Replaced.{replaced}
use Rattle.request_table.specs.Checks.{content_causes}
use Rattle.request_table.specs.Limits.{greatest_rows}
use Rattle.request_table.specs.Table.{rows, whole_rows}
use Rattle.inspection_rule.specs.Inspect.{own_causes}
use Rattle.access_rule.specs.Accesses.{greatest_accesses, count, bad_access}
use Rattle.access_rule.specs.Run.{arena_after, answer_byte}

-- 1, 2 and 3, each for either of two tables.
abbrev pub length_causes : List ℤ → List ℤ → List ℤ → ℕ → List (Cause Answer)
length_causes t o s room =
    (not (whole_rows t) || not (whole_rows s) ⇒ A.refused A.not_whole_rows)
    ∷ (ltb greatest_rows (rows t) || ltb greatest_accesses (count s) ⇒ A.refused A.too_many)
    ∷ (ltb (length o) (rows t) || ltb room (count s) ⇒ A.refused A.table_too_short)
    ∷ []

-- What the inspector gives past its checks 1 to 3: 4, 5, 8, 9, 7, 10.
abbrev pub inspector_causes : ℕ → List ℤ → ℕ → List ℤ → List (Cause Answer)
inspector_causes g t space o = content_causes g t space ++ own_causes g t space o

-- 12: the lent arena is shorter than the space.
abbrev pub arena_causes : ℕ → ℕ → List (Cause Answer)
arena_causes space held = (ltb held space ⇒ A.refused A.arena_too_short) ∷ []

-- 11: the lowest bad touch.
abbrev pub access_causes : List ℤ → List ℤ → List (Cause Answer)
access_causes t s = (holds_below (bad_access t s) (count s) ⇒ A.refused_at A.bad_access (first_in (bad_access t s) 0 (count s))) ∷ []

-- 12, 11.
abbrev pub last_causes : List ℤ → ℕ → List ℤ → ℕ → List (Cause Answer)
last_causes t space s held = arena_causes space held ++ access_causes t s

-- 1, 2, 3; 4, 5, 8, 9, 7, 10; 12; 11.
abbrev pub script_causes : ℕ → List ℤ → ℕ → List ℤ → List ℤ → ℕ → ℕ → List (Cause Answer)
script_causes g t space o s held room = length_causes t o s room ++ (inspector_causes g t space o ++ last_causes t space s held)

-- The answer of the checks 1 to 3 alone.
unfoldable pub lengths_of : List ℤ → List ℤ → List ℤ → ℕ → Answer
lengths_of t o s room = first_cause (length_causes t o s room) (A.done_with 0)

-- The answer of the checks 12 and 11 alone.
unfoldable pub touches_of : List ℤ → ℕ → List ℤ → ℕ → Answer
touches_of t space s held = first_cause (last_causes t space s held) (A.done_with 0)

-- The script's answer: the first cause that holds, else done, with all zeros.
unfoldable pub script_of : ℕ → List ℤ → ℕ → List ℤ → List ℤ → ℕ → ℕ → Answer
script_of g t space o s held room = first_cause (script_causes g t space o s held room) (A.done_with 0)

-- Whether the script is done.
abbrev pub is_done : ℕ → List ℤ → ℕ → List ℤ → List ℤ → List ℕ → List ℕ → Bool
is_done g t space o s arena bytes = eqb (script_of g t space o s (length arena) (length bytes)).number A.done

-- The arena in the end: where the script is done, as its touches leave it; on every refusal as lent.
unfoldable pub final_arena : ℕ → List ℤ → ℕ → List ℤ → List ℤ → List ℕ → List ℕ → List ℕ
final_arena g t space o s arena bytes = elim (is_done g t space o s arena bytes) [ true ↦ arena_after o s arena (count s) | false ↦ arena ]

-- The byte answers in the end: where it is done, one for each touch, and the rest stays; on every refusal all stays.
unfoldable pub final_bytes : ℕ → List ℤ → ℕ → List ℤ → List ℤ → List ℕ → List ℕ → List ℕ
final_bytes g t space o s arena bytes = elim (is_done g t space o s arena bytes) [ true ↦ replaced (answer_byte o s arena) (count s) bytes | false ↦ bytes ]
