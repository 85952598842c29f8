-- Document 01's bench sheets, those marked *, as document 02 corrects them: one table, one statement. Each sheet has what the definitions give and what is
-- wanted, an answer and the words of the table or state after it (offsets; lifetimes; head, temp, tail and usable). The statement, in
-- proofs/Sheets.antt, is that the two columns are equal, and the checker computes it. A planner's or lives' sheet lends a table of one entry more than it
-- needs, filled with 7, so that what stays is seen too.
use Rattle.std.specs.Prelude.{ℕ, List, [], ◌∷◌, ◌++◌, ℤ, pos, negsuc, length}
use Rattle.answer.specs.Answer.{done_with, done_at, refused, refused_at, refused_pair, refused_need, fixed_rows_collide, need_exceeds_space, no_room, temporaries_out, read_before_written}
use Rattle.answer.specs.declared.Answer.{Answer}
use Rattle.arena_sections.specs.History.{Operation, outcome_of, after}
use Rattle.arena_sections.specs.History.Operation.{allocate_persistent, allocate_temp, set_head}
use Rattle.arena_sections.specs.Sections.{base_alignment, open_of}
use Rattle.arena_sections.specs.declared.Outcome.{Outcome}
use Rattle.request_table.specs.Limits.{grid}
use Rattle.greedy_rule.specs.Plan.{plan_of, planned_table}
use Rattle.lifetime_rule.specs.FromUses.{lifetimes_of, final_lifetimes}
use Rattle.lifetime_rule.specs.Uses.{reads, writes, model_input, model_output}

-- An answer, and the words after it.
pub record Result : Type 0 where
  pub answer : Answer
  pub words : List ℤ

-- What the definitions give, and what is wanted.
pub record Sheet : Type 0 where
  pub given : Result
  pub wanted : Result

-- ---- the planner's sheets

-- A row: size, first and last moment, fixed offset.
abbrev row : ℕ → ℕ → ℕ → ℤ → List ℤ
row size first last offset = pos size ∷ pos first ∷ pos last ∷ offset ∷ []

-- Placed by us.
abbrev free_row : ℤ
free_row = negsuc 0

-- A table planned in a space, over a lent table, and the answer and words that are wanted.
abbrev planned : List ℤ → ℕ → List ℤ → Answer → List ℤ → Sheet
planned t space lent answer words =
    record {
      given = record { answer = plan_of grid t space (length lent); words = planned_table grid t space lent };
      wanted = record { answer = answer; words = words };
    }

-- Lent tables.
abbrev one_entry : List ℤ
one_entry = pos 7 ∷ []

abbrev two_entries : List ℤ
two_entries = pos 7 ∷ one_entry

abbrev three_entries : List ℤ
three_entries = pos 7 ∷ two_entries

abbrev four_entries : List ℤ
four_entries = pos 7 ∷ three_entries

-- Sheet A.
abbrev sheet_a : List ℤ
sheet_a = row 100 0 1 free_row ++ (row 50 0 2 free_row ++ row 40 2 3 free_row)

-- A fixed row that lives through, and one of another size beside it.
abbrev beside : ℕ → List ℤ
beside size = row 64 0 3 (pos 64) ++ row size 1 2 free_row

-- Two rows of 32, the second alive from one moment to another.
abbrev two : ℕ → ℕ → ℕ → List ℤ
two last first' last' = row 32 0 last free_row ++ row 32 first' last' free_row

-- Two fixed rows that never live together, and a row that lives with both.
abbrev three : List ℤ
three = row 64 0 0 (pos 0) ++ (row 32 1 1 (pos 0) ++ row 16 0 1 free_row)

-- Two fixed rows that collide.
abbrev clash : List ℤ
clash = row 20 0 0 (pos 0) ++ row 8 0 0 (pos 16)

abbrev planner_sheets : List Sheet
planner_sheets =
    planned sheet_a 1024 four_entries (done_with 176) (pos 0 ∷ pos 112 ∷ pos 0 ∷ one_entry)
    ∷ planned sheet_a 176 four_entries (done_with 176) (pos 0 ∷ pos 112 ∷ pos 0 ∷ one_entry)
    ∷ planned sheet_a 175 four_entries (refused_need need_exceeds_space 176) four_entries
    ∷ planned (beside 64) 1024 three_entries (done_with 128) (pos 64 ∷ pos 0 ∷ one_entry)
    ∷ planned (beside 65) 1024 three_entries (done_with 208) (pos 64 ∷ pos 128 ∷ one_entry)
    ∷ planned (two 0 0 0) 1024 three_entries (done_with 64) (pos 0 ∷ pos 32 ∷ one_entry)
    ∷ planned (two 1 1 2) 1024 three_entries (done_with 64) (pos 0 ∷ pos 32 ∷ one_entry)
    ∷ planned (two 1 2 3) 1024 three_entries (done_with 32) (pos 0 ∷ pos 0 ∷ one_entry)
    ∷ planned three 1024 four_entries (done_with 80) (pos 0 ∷ pos 0 ∷ pos 64 ∷ one_entry)
    ∷ planned clash 1024 three_entries (refused_pair fixed_rows_collide 0 1) three_entries
    ∷ planned [] 1024 one_entry (done_with 0) one_entry
    ∷ planned (row 0 0 0 (pos 48)) 1024 two_entries (done_with 0) (pos 48 ∷ one_entry)
    ∷ []

-- ---- the sections' sheet

-- What an operation answers and the state that it hands back, and the answer and words that are wanted.
abbrev operated : Outcome → Answer → List ℤ → Sheet
operated o answer words =
    let s = o.sections in
    record {
      given = record { answer = o.answer; words = pos s.head ∷ pos s.temp ∷ pos s.tail ∷ pos s.usable ∷ [] };
      wanted = record { answer = answer; words = words };
    }

-- Start 1003, length 2,048.
abbrev arena : Outcome
arena = open_of base_alignment 1003 2048

-- An operation after others in that arena.
abbrev later : List Operation → Operation → Outcome
later before op = outcome_of base_alignment (after base_alignment arena.sections before) op

abbrev keep : ℕ → ℕ → Operation
keep size alignment = allocate_persistent size alignment

abbrev section_sheet : List Sheet
section_sheet =
    operated arena (done_at 0) (pos 0 ∷ pos 0 ∷ pos 2043 ∷ pos 2043 ∷ [])
    ∷ operated (later [] (keep 10 8)) (done_at 2032) (pos 0 ∷ pos 0 ∷ pos 2032 ∷ pos 2043 ∷ [])
    ∷ operated (later (keep 10 8 ∷ []) (allocate_temp 20 16)) (done_at 0) (pos 0 ∷ pos 20 ∷ pos 2032 ∷ pos 2043 ∷ [])
    ∷ operated (later (keep 10 8 ∷ allocate_temp 20 16 ∷ []) (keep 2013 1)) (refused no_room) (pos 0 ∷ pos 20 ∷ pos 2032 ∷ pos 2043 ∷ [])
    ∷ operated (later (keep 10 8 ∷ allocate_temp 20 16 ∷ keep 2013 1 ∷ []) (keep 2012 1)) (done_at 20) (pos 0 ∷ pos 20 ∷ pos 20 ∷ pos 2043 ∷ [])
    ∷ operated (later (keep 10 8 ∷ allocate_temp 20 16 ∷ keep 2013 1 ∷ keep 2012 1 ∷ []) (set_head 64)) (refused temporaries_out) (pos 0 ∷ pos 20 ∷ pos 20 ∷ pos 2043 ∷ [])
    ∷ []

-- ---- the lives' sheets

-- A use: operator, tensor, role.
abbrev one_use : ℕ → ℕ → ℕ → List ℤ
one_use operator tensor role = pos operator ∷ pos tensor ∷ pos role ∷ []

-- The lives of so many tensors under so many operators, over a lent table, and the answer and words that are wanted.
abbrev given_uses : ℕ → ℕ → List ℤ → List ℤ → Answer → List ℤ → Sheet
given_uses operators tensors uses lent answer words =
    record {
      given = record { answer = lifetimes_of operators tensors uses (length lent); words = final_lifetimes operators tensors uses lent };
      wanted = record { answer = answer; words = words };
    }

-- Tensor 0 is a model input.
abbrev input_use : List ℤ
input_use = one_use 0 0 model_input

-- Tensor 1 is written and a model output, so that by document 02's order 2 it lives 0–2; tensor 2 is written by an operator and read by the next.
abbrev other_uses : List ℤ
other_uses = one_use 0 0 reads ++ (one_use 0 1 writes ++ (one_use 0 1 model_output ++ (one_use 1 0 reads ++ (one_use 1 2 writes ++ one_use 2 2 reads))))

abbrev seven_entries : List ℤ
seven_entries = pos 7 ∷ pos 7 ∷ pos 7 ∷ four_entries

abbrev lifetime_sheets : List Sheet
lifetime_sheets =
    given_uses 3 3 (input_use ++ other_uses) seven_entries (done_with 0) (pos 0 ∷ pos 1 ∷ pos 0 ∷ pos 2 ∷ pos 1 ∷ pos 2 ∷ one_entry)
    ∷ given_uses 3 3 other_uses seven_entries (refused_at read_before_written 0) seven_entries
    ∷ []

-- ---- the table

-- Every starred sheet.
abbrev pub sheets : List Sheet
sheets = planner_sheets ++ (section_sheet ++ lifetime_sheets)
