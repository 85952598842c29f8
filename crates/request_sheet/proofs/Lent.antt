-- What is lent on, table by table, as the code comes to it: the planner's offsets, the requests of good shapes and the words of a sheet.
use Rattle.std.specs.Prelude.{ℕ, ◌*◌, ◌%◌, ◌≤◌, List, ◌++◌, Option, ◌≡◌, ℤ, pos, length, take, drop, replicate}
use Rattle.std.proofs.Common.{sym, ◌∙◌, ap, ap₂, arith, length-append, take_at}
use Rattle.std.proofs.Math.Seq.{length-take-le}
use Rattle.std.proofs.lemmas.List.{length-replicate}
use Rattle.answer.specs.Answer.{number_of}
use Rattle.answer.specs.declared.Answer.{Answer}
use Rattle.greedy_rule.specs.Plan.{plan_of, planned_table}
use Rattle.request_table.specs.Limits.{greatest_rows, grid}
use Rattle.request_table.specs.Table.{rows}
use Rattle.shape_rule.specs.ShapeAnswers.{Fitting}
use Rattle.shape_rule.proofs.ShapeAnswers.{shapes_decide}
use Rattle.shape_rule.proofs.SizedRows.{stored_rows}
use Rattle.shape_rule.specs.ShapeTable.{shape_count}
use Rattle.shape_rule.specs.Sized.{sized_table, shapes_of, sized_of, final_requests}
use Rattle.sheet_rule.proofs.GoodSheets.{well_says}
use Rattle.sheet_rule.proofs.ReadSheets.{Table, good_rows}
use Rattle.sheet_rule.specs.Sheet.{row_count, word_count, sheet_words, sheet_space, words_read}
use Rattle.text_pieces.specs.Replied.{Stands}
use Rattle.text_pieces.proofs.Replied.{stands_as, reply_stands}
use Rattle.text_rule.specs.Text.{answer_text, offset_in, greatest_text}
use Rattle.word_lists.proofs.WordsComeBack.{words_length}
use Rattle.reply_rule.proofs.Replies.{planned_told}
use Rattle.reply_rule.specs.Reply.{table_text, reply_text, reply_of, text_after}

-- A table that is filled has so many entries.
pub as_filled : {n : ℕ} {zeros : List ℤ} → zeros ≡ replicate n (pos 0) → n ≡ length zeros
as_filled {n} {zeros} e = sym (ap length e ∙ length-replicate n (pos 0))

-- ---- the planner's offsets

-- The planner is lent an entry for each row.
pub lent : (t zeros : List ℤ) → rows t ≤ greatest_rows → greatest_rows ≡ length zeros → length (take (rows t) zeros) ≡ rows t
lent t zeros few long = length-take-le (rows t) zeros (omega (arith, few, long))

module _ (t : List ℤ) (space : ℕ) (zeros offsets : List ℤ) (few : rows t ≤ greatest_rows) (long : greatest_rows ≡ length zeros) (same : length offsets ≡ length (take (rows t) zeros)) where
  -- It leaves as many,
  pub as_planned : length offsets ≡ rows t
  as_planned = same ∙ lent t zeros few long

  -- and they are what is lent on.
  pub offsets_lent : take (rows t) (offsets ++ drop (rows t) zeros) ≡ offsets
  offsets_lent = take_at offsets (drop (rows t) zeros) (rows t) as_planned

  -- What is told of them is the table's text.
  pub offsets_told : {answer : Answer} → answer ≡ plan_of grid t space (length (take (rows t) zeros)) → offsets ≡ planned_table grid t space (take (rows t) zeros)
      → answer_text answer (offset_in (take (rows t) (offsets ++ drop (rows t) zeros))) (length (take (rows t) (offsets ++ drop (rows t) zeros))) ≡ table_text t space
  offsets_told {answer} p q =
      ap (λ (xs : List ℤ). answer_text answer (offset_in xs) (length xs)) offsets_lent
      ∙ ap (answer_text answer (offset_in offsets)) as_planned
      ∙ planned_told t space (take (rows t) zeros) offsets answer (lent t zeros few long) p q

-- ---- the requests of shapes

module _ (t zeros : List ℤ) (whole : length t % 13 ≡ 0) (few : shape_count t ≤ greatest_rows) (long : greatest_rows * 4 ≡ length zeros) where
  -- The tables' lengths are as they must be,
  pub fitting : Fitting t (length zeros)
  fitting = record { whole = whole; few = few; roomy = omega (arith, few, long) }

  -- so the answer is that of the shapes,
  pub judged : {answer : Answer} → answer ≡ sized_of t (length zeros) → answer ≡ shapes_of t
  judged p = p ∙ sym (shapes_decide t (length zeros) fitting)

  -- and of good ones the requests are lent on.
  pub requests_lent : {answer : Answer} {requests : List ℤ} → answer ≡ sized_of t (length zeros) → requests ≡ final_requests t zeros → answer.number ≡ 0
      → take (shape_count t * 4) requests ≡ sized_table t
  requests_lent p q z = ap (λ (xs : List ℤ). take (shape_count t * 4) xs) q ∙ stored_rows t zeros (sym (ap number_of p) ∙ z) fitting.roomy

-- ---- the words of a sheet that is not bad

module _ (sheet : List ℕ) (zeros words : List ℤ) {number n space : ℕ} (s : Table sheet number n space) (p : words ≡ words_read sheet zeros) where
  -- Its words stand in front of the table,
  stored : words ≡ sheet_words sheet ++ drop (word_count sheet) zeros
  stored = p ∙ good_rows sheet zeros s.well

  pub within : n ≤ length words
  within = omega (arith, s.counted, simp length-append at (ap length stored), words_length sheet 11 (word_count sheet))

  -- and are what is lent on.
  pub words_lent : take n words ≡ sheet_words sheet
  words_lent = ap₂ (λ (k : ℕ) (xs : List ℤ). take k xs) s.counted stored ∙ take_at (sheet_words sheet) _ (word_count sheet) (words_length sheet 11 (word_count sheet))

  pub as_many : n ≡ length (take n words)
  as_many = s.counted ∙ sym (words_length sheet 11 (word_count sheet)) ∙ ap length (sym words_lent)

  pub few_rows : row_count sheet ≤ greatest_rows
  few_rows = (well_says sheet s.well).good.few

  -- What is told of them, and is the sheet's text, is the reply.
  pub words_told : (text : List ℤ → ℕ → List ℕ) → text (sheet_words sheet) (sheet_space sheet) ≡ reply_text sheet → {before after : List ℕ} {count : Option ℕ}
      → greatest_text ≤ length before → Stands (text (take n words) space) before after count → (count ≡ reply_of sheet (length before)) × (after ≡ text_after sheet before)
  words_told text e roomy w = reply_stands greatest_text (reply_text sheet) _ roomy (stands_as (ap₂ text words_lent s.spaced ∙ e) w)
