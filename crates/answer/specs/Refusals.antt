-- Why a call is refused: the causes of document 01's "Answer numbers", each with the number that the list gives it, and what an answer becomes of it.
use Rattle.std.specs.Prelude.{ℕ, Result, Ok, Err}
use Rattle.answer.specs.declared.Answer.{Answer}
use Rattle.answer.specs.declared.Cause.{Cause}
use Rattle.answer.specs.declared.Cause.TheVariants.{NotWholeRows, TooMany, TableTooShort, SpaceTooLarge, BadRow, FixedRowsCollide, NeedExceedsSpace, FixedRowMoved, BadOffset, RowsCollide, BadAccess, ArenaTooShort, SectionsNotValid, BadAlignment, NoRoom, TemporariesOut, HeadMadeSmaller, WrongLength, OtherTensorCount, TensorNeverNamed, ReadBeforeWritten, BadTypeCode, BadAllocationKind}
use Rattle.answer.specs.declared.Refusal.{Refusal}
use Rattle.answer.specs.Answer as A

-- The cause's number.
abbrev pub number_of_cause : Cause → ℕ
number_of_cause NotWholeRows = A.not_whole_rows
number_of_cause TooMany = A.too_many
number_of_cause TableTooShort = A.table_too_short
number_of_cause SpaceTooLarge = A.space_too_large
number_of_cause BadRow = A.bad_row
number_of_cause FixedRowsCollide = A.fixed_rows_collide
number_of_cause NeedExceedsSpace = A.need_exceeds_space
number_of_cause FixedRowMoved = A.fixed_row_moved
number_of_cause BadOffset = A.bad_offset
number_of_cause RowsCollide = A.rows_collide
number_of_cause BadAccess = A.bad_access
number_of_cause ArenaTooShort = A.arena_too_short
number_of_cause SectionsNotValid = A.sections_not_valid
number_of_cause BadAlignment = A.bad_alignment
number_of_cause NoRoom = A.no_room
number_of_cause TemporariesOut = A.temporaries_out
number_of_cause HeadMadeSmaller = A.head_made_smaller
number_of_cause WrongLength = A.wrong_length
number_of_cause OtherTensorCount = A.other_tensor_count
number_of_cause TensorNeverNamed = A.tensor_never_named
number_of_cause ReadBeforeWritten = A.read_before_written
number_of_cause BadTypeCode = A.bad_type_code
number_of_cause BadAllocationKind = A.bad_allocation_kind

-- ---- the refusals

-- With nothing carried.
abbrev pub refused_for : Cause → Refusal
refused_for cause = record { cause = cause; a = 0; b = 0; need = 0 }

-- For one row, touch, tensor or use.
abbrev pub refused_for_at : Cause → ℕ → Refusal
refused_for_at cause a = record { cause = cause; a = a; b = 0; need = 0 }

-- For two rows.
abbrev pub refused_for_pair : Cause → ℕ → ℕ → Refusal
refused_for_pair cause a b = record { cause = cause; a = a; b = b; need = 0 }

-- For a need, which is carried.
abbrev pub refused_for_need : Cause → ℕ → Refusal
refused_for_need cause need = record { cause = cause; a = 0; b = 0; need = need }

-- ---- as answers

-- The answer that tells a refusal.
abbrev pub told : Refusal → Answer
told r = record { number = number_of_cause r.cause; a = r.a; b = r.b; need = r.need }

-- The answer of what came of a call: done with its need, or the refusal.
abbrev pub answer_of : Result ℕ Refusal → Answer
answer_of (Ok need) = A.done_with need
answer_of (Err r) = told r

-- The answer of checks: done with no need where they pass, or the refusal.
abbrev pub verdict_of : Result (Unit {0}) Refusal → Answer
verdict_of (Ok u) = A.done_with 0
verdict_of (Err r) = told r
