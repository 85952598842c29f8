-- `request_sheet::reply` meets its contract: no room is told first; then the text of the sheet's table, of its shapes or of a bad sheet stands in the lent
-- bytes.
use Rattle.std.specs.Prelude.{ℕ, ◌≤◌, Option, Some, None}
use mathlib.Core.List.{List}
use mathlib.Core.Path.{◌≡◌, sym, ◌∙◌, ap, subst}
use native.Mathlib.Omega.{arith}
use lib.ListN.{length}
use Rattle.sheet_rule.proofs.ReadSheets.{ReadAs, Table, read_as, requests_say, shapes_say, bad_says, rows_are, shapes_are}
use Rattle.sheet_rule.specs.Sheet.{sheet_of}
use Rattle.sheet_rule.specs.declared.Sheet.{Sheet}
use Rattle.sheet_rule.specs.declared.Sheet.TheVariants.{Requests, Shapes}
use Rattle.request_table.specs.Table.{rows}
use Rattle.shape_rule.specs.ShapeTable.{shape_count}
use Rattle.reply_rule.proofs.Replies.{table_reply, shapes_reply, bad_reply}
use Rattle.reply_rule.specs.Reply.{table_text, shapes_text, reply_text, reply_of, text_after}
use Rattle.text_pieces.proofs.Replied.{no_room, stands_as, reply_stands}
use Rattle.text_rule.specs.Text.{greatest_text, bad_sheet_text}
use Rattle.text_pieces.specs.Replied.{Stands}
use Rattle.request_sheet.proofs.Lent.{within, words_lent, as_many, few_rows, words_told}
use Rattle.request_sheet.proofs.Writing.{written}
use Rattle.request_sheet.proofs.reply.Goals as goal

-- ---- what was read of a sheet

module _ (sheet : List ℕ) {read : Option Sheet} (e : read ≡ sheet_of sheet) where
  said : {count space : ℕ} → read ≡ Some (Requests count space) → Table sheet 1 count space
  said i = requests_say sheet (subst (ReadAs sheet) (sym e ∙ i) (read_as sheet))

  said_shapes : {count space : ℕ} → read ≡ Some (Shapes count space) → Table sheet 2 count space
  said_shapes i = shapes_say sheet (subst (ReadAs sheet) (sym e ∙ i) (read_as sheet))

  -- the text of a bad one is the reply
  told_bad : read ≡ None → {before after : List ℕ} {count : Option ℕ} → Stands bad_sheet_text before after count → greatest_text ≤ length before
      → (count ≡ reply_of sheet (length before)) × (after ≡ text_after sheet before)
  told_bad i w l = reply_stands greatest_text (reply_text sheet) _ l (stands_as (bad_reply sheet (bad_says sheet (subst (ReadAs sheet) (sym e ∙ i) (read_as sheet)))) w)

-- ---- the needs

pub returns-then-text-lt-GREATEST_TEXT-clause-reply : goal.returns-then-text-lt-GREATEST_TEXT-clause-reply
returns-then-text-lt-GREATEST_TEXT-clause-reply c = (no_room greatest_text (reply_text c.args.sheet.now) c.args.text.now c.if-text-lt-GREATEST_TEXT.true).0

pub returns-then-text-lt-GREATEST_TEXT-clause-text : goal.returns-then-text-lt-GREATEST_TEXT-clause-text
returns-then-text-lt-GREATEST_TEXT-clause-text c = (no_room greatest_text (reply_text c.args.sheet.now) c.args.text.now c.if-text-lt-GREATEST_TEXT.true).1

pub slice_bounds-words-end : goal.slice_bounds-words-end
slice_bounds-words-end c = within _ _ _ (said _ c.read.ensures.sheet (c.in-Some.is ∙ ap (λ x. Some x) c.in-Requests.is)) c.read.ensures.table

pub slice_bounds-write_plan-end : goal.slice_bounds-write_plan-end
slice_bounds-write_plan-end c = as_many _ _ _ (said _ c.read.ensures.sheet (c.in-Some.is ∙ ap (λ x. Some x) c.in-Requests.is)) c.read.ensures.table

pub write_plan-requires : goal.write_plan-requires
write_plan-requires c =
    let s = said _ c.read.ensures.sheet (c.in-Some.is ∙ ap (λ x. Some x) c.in-Requests.is) in
    let p = c.read.ensures.table in
    (omega (arith, ap rows (words_lent _ _ _ s p), rows_are _ s.of_version, few_rows _ _ _ s p), c.if-text-lt-GREATEST_TEXT.false)

pub slice_bounds-words-end-in-Shapes : goal.slice_bounds-words-end-in-Shapes
slice_bounds-words-end-in-Shapes c = within _ _ _ (said_shapes _ c.read.ensures.sheet (c.in-Some.is ∙ ap (λ x. Some x) c.in-Shapes.is)) c.read.ensures.table

pub slice_bounds-write_shapes-end : goal.slice_bounds-write_shapes-end
slice_bounds-write_shapes-end c = as_many _ _ _ (said_shapes _ c.read.ensures.sheet (c.in-Some.is ∙ ap (λ x. Some x) c.in-Shapes.is)) c.read.ensures.table

pub write_shapes-requires : goal.write_shapes-requires
write_shapes-requires c =
    let s = said_shapes _ c.read.ensures.sheet (c.in-Some.is ∙ ap (λ x. Some x) c.in-Shapes.is) in
    let p = c.read.ensures.table in
    let n = shapes_are c.args.sheet.now s.of_version in
    (rw (words_lent _ _ _ s p) n.0, omega (arith, ap shape_count (words_lent _ _ _ s p), n.1, few_rows _ _ _ s p), c.if-text-lt-GREATEST_TEXT.false)

pub returns-in-Requests-clause-reply : goal.returns-in-Requests-clause-reply
returns-in-Requests-clause-reply c =
    let s = said _ c.read.ensures.sheet (c.in-Some.is ∙ ap (λ x. Some x) c.in-Requests.is) in
    (words_told _ _ _ s c.read.ensures.table table_text (table_reply _ s.well s.of_version) c.if-text-lt-GREATEST_TEXT.false c.write_plan.ensures).0

pub returns-in-Requests-clause-text : goal.returns-in-Requests-clause-text
returns-in-Requests-clause-text c =
    let s = said _ c.read.ensures.sheet (c.in-Some.is ∙ ap (λ x. Some x) c.in-Requests.is) in
    (words_told _ _ _ s c.read.ensures.table table_text (table_reply _ s.well s.of_version) c.if-text-lt-GREATEST_TEXT.false c.write_plan.ensures).1

pub returns-in-Shapes-clause-reply : goal.returns-in-Shapes-clause-reply
returns-in-Shapes-clause-reply c =
    let s = said_shapes _ c.read.ensures.sheet (c.in-Some.is ∙ ap (λ x. Some x) c.in-Shapes.is) in
    (words_told _ _ _ s c.read.ensures.table shapes_text (shapes_reply _ s.well s.of_version) c.if-text-lt-GREATEST_TEXT.false c.write_shapes.ensures).0

pub returns-in-Shapes-clause-text : goal.returns-in-Shapes-clause-text
returns-in-Shapes-clause-text c =
    let s = said_shapes _ c.read.ensures.sheet (c.in-Some.is ∙ ap (λ x. Some x) c.in-Shapes.is) in
    (words_told _ _ _ s c.read.ensures.table shapes_text (shapes_reply _ s.well s.of_version) c.if-text-lt-GREATEST_TEXT.false c.write_shapes.ensures).1

pub returns-in_default-clause-reply : goal.returns-in_default-clause-reply
returns-in_default-clause-reply c =
    let w = written {n = 0} (omega arith) c.if-text-lt-GREATEST_TEXT.false c.write_bad_sheet.ensures.count c.write_bad_sheet.ensures.bytes in
    (told_bad _ c.read.ensures.sheet c.in_default.is w c.if-text-lt-GREATEST_TEXT.false).0

pub returns-in_default-clause-text : goal.returns-in_default-clause-text
returns-in_default-clause-text c =
    let w = written {n = 0} (omega arith) c.if-text-lt-GREATEST_TEXT.false c.write_bad_sheet.ensures.count c.write_bad_sheet.ensures.bytes in
    (told_bad _ c.read.ensures.sheet c.in_default.is w c.if-text-lt-GREATEST_TEXT.false).1
