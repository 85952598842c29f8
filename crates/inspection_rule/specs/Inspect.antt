-- The plan inspector's answer (document 01, "The desk's order of checks"): "Inspector: 1, 2, 3, 4, 5, 8, 9, 7, 10. It reads the first n proposed
-- offsets, signed 32-bit. Accepted exactly when none holds." A proposal is the raw list of its words, one for each row of the table, whoever made it.
use Rattle.std.specs.Prelude.{ℕ, Bool, not, ◌&&◌, ◌||◌, List, [], ◌∷◌, ◌++◌, ltb, eqb, ℤ, pos, length}
use Rattle.std.specs.Int.Signed.{lt_z}
use Rattle.answer.specs.declared.Answer.{Answer}
use Rattle.answer.specs.Answer as A
use Rattle.bounded.specs.Causes.{Cause, ◌⇒◌, first_cause}
use Rattle.bounded.specs.First.{first_in, holds_below}
use Rattle.bounded.specs.Pair.{pair_below, pair_first, pair_second}
use Rattle.words.specs.Words.{word_at, natural}
use Rattle.request_table.specs.Buffers.{collide_in, need}
use Rattle.request_table.specs.Checks.{table_causes}
use Rattle.request_table.specs.Table.{rows, fixed, fixed_offset, on_grid}

-- The offset that is proposed for a row; a negative word stands as a number above every limit.
abbrev pub proposed : List ℤ → ℕ → ℕ
proposed o r = natural (word_at o r)

-- "a fixed row was moved": its proposed offset is not its own. Empty rows count too.
unfoldable pub moved : List ℤ → List ℤ → ℕ → Bool
moved t o r = fixed t r && not (eqb (proposed o r) (fixed_offset t r))

-- "proposed offset negative or not a multiple of 16".
unfoldable pub off_grid : ℕ → List ℤ → ℕ → Bool
off_grid g o r = lt_z (word_at o r) (pos 0) || not (on_grid g (proposed o r))

-- The need of the proposed plan.
unfoldable pub proposed_need : ℕ → List ℤ → List ℤ → ℕ
proposed_need g t o = need g t (proposed o)

-- Two rows collide, each at its proposed offset.
abbrev pub proposed_collide : ℕ → List ℤ → List ℤ → ℕ → ℕ → Bool
proposed_collide g t o = collide_in g t (proposed o)

-- 8: the lowest fixed row that was moved.
abbrev pub moved_causes : List ℤ → List ℤ → List (Cause Answer)
moved_causes t o = (holds_below (moved t o) (rows t) ⇒ A.refused_at A.fixed_row_moved (first_in (moved t o) 0 (rows t))) ∷ []

-- 9: the lowest row whose proposed offset is negative or off the grid.
abbrev pub grid_causes : ℕ → List ℤ → List ℤ → List (Cause Answer)
grid_causes g t o = (holds_below (off_grid g o) (rows t) ⇒ A.refused_at A.bad_offset (first_in (off_grid g o) 0 (rows t))) ∷ []

-- 7: the need exceeds the space.
abbrev pub need_causes : ℕ → List ℤ → ℕ → List ℤ → List (Cause Answer)
need_causes g t space o = (ltb space (proposed_need g t o) ⇒ A.refused_need A.need_exceeds_space (proposed_need g t o)) ∷ []

-- 10: two rows collide, the least a, then the least b.
abbrev pub pair_causes : ℕ → List ℤ → List ℤ → List (Cause Answer)
pair_causes g t o =
    (pair_below (proposed_collide g t o) (rows t)
    ⇒ A.refused_pair A.rows_collide (pair_first (proposed_collide g t o) (rows t)) (pair_second (proposed_collide g t o) (rows t)))
    ∷ []

-- 8, 9.
abbrev pub offset_causes : ℕ → List ℤ → List ℤ → List (Cause Answer)
offset_causes g t o = moved_causes t o ++ grid_causes g t o

-- 7, 10.
abbrev pub plan_causes : ℕ → List ℤ → ℕ → List ℤ → List (Cause Answer)
plan_causes g t space o = need_causes g t space o ++ pair_causes g t o

-- The inspector's own: 8, 9, 7, 10.
abbrev pub own_causes : ℕ → List ℤ → ℕ → List ℤ → List (Cause Answer)
own_causes g t space o = offset_causes g t o ++ plan_causes g t space o

-- 1, 2, 3, 4, 5, then its own.
abbrev pub inspect_causes : ℕ → List ℤ → ℕ → List ℤ → List (Cause Answer)
inspect_causes g t space o = table_causes g t space (length o) ++ own_causes g t space o

-- Where no cause holds: accepted, with the need.
abbrev pub accepted_answer : ℕ → List ℤ → List ℤ → Answer
accepted_answer g t o = A.done_with (proposed_need g t o)

-- The answer of the check 10 alone.
unfoldable pub pair_of : ℕ → List ℤ → List ℤ → Answer
pair_of g t o = first_cause (pair_causes g t o) (accepted_answer g t o)

-- The answer past the checks 1 to 5.
unfoldable pub proposal_of : ℕ → List ℤ → ℕ → List ℤ → Answer
proposal_of g t space o = first_cause (own_causes g t space o) (accepted_answer g t o)

-- The inspector's answer: the first of 1, 2, 3, 4, 5, 8, 9, 7, 10 that holds, else accepted with the need.
unfoldable pub inspect_of : ℕ → List ℤ → ℕ → List ℤ → Answer
inspect_of g t space o = first_cause (inspect_causes g t space o) (accepted_answer g t o)
