-- Document 01, "Answer numbers". An answer is a number, two places a and b, and a need; each is 0 unless the document's table names it.
-- The numbers have names here and in the code; the answers are made by the six forms below, so that what each carries can be read off.
use Rattle.std.specs.Prelude.{ℕ}
use Rattle.answer.specs.declared.Answer.{Answer}

-- ---- the numbers

-- 0: done.
abbrev pub done : ℕ
done = 0

-- 1: a table isn't whole rows.
abbrev pub not_whole_rows : ℕ
not_whole_rows = 1

-- 2: too many rows, operators or tensors; no operator.
abbrev pub too_many : ℕ
too_many = 2

-- 3: a lent answer or proposal table is too short.
abbrev pub table_too_short : ℕ
table_too_short = 3

-- 4: space above 16,777,216.
abbrev pub space_too_large : ℕ
space_too_large = 4

-- 5: bad row; a = lowest such row.
abbrev pub bad_row : ℕ
bad_row = 5

-- 6: two fixed rows collide; a < b, least a, then least b.
abbrev pub fixed_rows_collide : ℕ
fixed_rows_collide = 6

-- 7: need exceeds space; the need is carried.
abbrev pub need_exceeds_space : ℕ
need_exceeds_space = 7

-- 8: a fixed row was moved; a = lowest.
abbrev pub fixed_row_moved : ℕ
fixed_row_moved = 8

-- 9: proposed offset negative or not a multiple of 16; a = lowest.
abbrev pub bad_offset : ℕ
bad_offset = 9

-- 10: two rows collide; a < b, least a, then least b.
abbrev pub rows_collide : ℕ
rows_collide = 10

-- 11: bad touch; a = lowest.
abbrev pub bad_access : ℕ
bad_access = 11

-- 12: lent arena shorter than space.
abbrev pub arena_too_short : ℕ
arena_too_short = 12

-- 13: section state or arena not valid.
abbrev pub sections_not_valid : ℕ
sections_not_valid = 13

-- 14: alignment not 1, 2, 4, 8 or 16.
abbrev pub bad_alignment : ℕ
bad_alignment = 14

-- 15: no room in the sections.
abbrev pub no_room : ℕ
no_room = 15

-- 16: head set while temporaries are out.
abbrev pub temporaries_out : ℕ
temporaries_out = 16

-- 17: head made smaller.
abbrev pub head_made_smaller : ℕ
head_made_smaller = 17

-- 18: offline plan of wrong length.
abbrev pub wrong_length : ℕ
wrong_length = 18

-- 19: offline plan for another tensor count.
abbrev pub other_tensor_count : ℕ
other_tensor_count = 19

-- 20: tensor never named; a = lowest tensor.
abbrev pub tensor_never_named : ℕ
tensor_never_named = 20

-- 21: read before written; a = lowest use row.
abbrev pub read_before_written : ℕ
read_before_written = 21

-- 24: type code refused (document 02, order 1).
abbrev pub bad_type_code : ℕ
bad_type_code = 24

-- 25: allocation kind refused (document 02, order 4).
abbrev pub bad_allocation_kind : ℕ
bad_allocation_kind = 25

-- ---- the answers

-- Done, with the need of the plan.
abbrev pub done_with : ℕ → Answer
done_with need = record { number = done; a = 0; b = 0; need = need }

-- Done, with the start of what was allocated.
abbrev pub done_at : ℕ → Answer
done_at start = record { number = done; a = start; b = 0; need = 0 }

-- Refused, with nothing carried.
abbrev pub refused : ℕ → Answer
refused number = record { number = number; a = 0; b = 0; need = 0 }

-- Refused for one row, touch, tensor or use.
abbrev pub refused_at : ℕ → ℕ → Answer
refused_at number a = record { number = number; a = a; b = 0; need = 0 }

-- Refused for two rows.
abbrev pub refused_pair : ℕ → ℕ → ℕ → Answer
refused_pair number a b = record { number = number; a = a; b = b; need = 0 }

-- Refused for a need, which is carried.
abbrev pub refused_need : ℕ → ℕ → Answer
refused_need number need = record { number = number; a = 0; b = 0; need = need }

-- The number alone, as the laws of causes ask for it.
abbrev pub number_of : Answer → ℕ
number_of x = x.number
