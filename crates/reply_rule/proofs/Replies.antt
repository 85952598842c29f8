-- The text of a reply as the code comes to it: that of a table, of shapes or `bad sheet`.
use Rattle.std.specs.Prelude.{ℕ, ◌<◌, true, false, List, ◌≡◌, ℤ, pos, length, get_or}
use Rattle.std.proofs.Common.{sym, ◌∙◌, ap, arith}
use borrow.Author.Tests.{eq-eqb, ne_eqb}
use Rattle.answer.specs.Answer.{number_of}
use Rattle.answer.specs.declared.Answer.{Answer}
use Rattle.bounded.specs.Causes.{first_cause}
use Rattle.greedy_rule.proofs.DonePlans.{done_plan}
use Rattle.greedy_rule.specs.Greedy.{greedy_plan}
use Rattle.greedy_rule.specs.Plan.{plan_of, planned_table}
use Rattle.text_rule.proofs.TextOfOffsets.{answer_same}
use Rattle.text_rule.specs.Text.{answer_text, refused_text, bad_sheet_text, offset_in}
use Rattle.request_table.specs.Limits.{grid}
use Rattle.request_table.specs.Table.{rows}
use Rattle.shape_rule.specs.Sized.{sized_table, shapes_of}
use Rattle.sheet_rule.specs.Sheet.{well_formed, version, sheet_words, sheet_space}
use Rattle.words.specs.Words.{natural}
use Rattle.reply_rule.specs.Reply.{table_text, shapes_text, reply_text}

-- ---- the text of a table and of shapes

-- The planner's table and answer are told as the table's text.
pub planned_told : (t : List ℤ) (space : ℕ) (lent offsets : List ℤ) (answer : Answer) → length lent ≡ rows t → answer ≡ plan_of grid t space (length lent)
    → offsets ≡ planned_table grid t space lent → answer_text answer (offset_in offsets) (rows t) ≡ table_text t space
unfolding table_text natural offset_in
planned_told t space lent offsets answer long p q =
    answer_same answer (offset_in offsets) (greedy_plan grid t) (rows t) told
    ∙ ap (λ (x : Answer). answer_text x (greedy_plan grid t) (rows t)) (p ∙ ap (plan_of grid t space) long)
  where
    told : answer.number ≡ 0 → (r : ℕ) → r < rows t → offset_in offsets r ≡ greedy_plan grid t r
    told z r l = ap natural (ap (λ (xs : List ℤ). get_or xs r (pos 0)) q ∙ (done_plan grid t space lent (sym (ap number_of p) ∙ z)).entries r l)

-- The text of shapes of which one is bad is the refusal,
pub shapes_refused : (t : List ℤ) (space : ℕ) → ((shapes_of t).number ≡ 0 → ⊥) → refused_text (shapes_of t) ≡ shapes_text t space
unfolding shapes_text
shapes_refused t space f = rw (ne_eqb _ _ f, shapes_text)

-- and of good ones their table's.
pub shapes_sized : (t : List ℤ) (space : ℕ) → (shapes_of t).number ≡ 0 → table_text (sized_table t) space ≡ shapes_text t space
unfolding shapes_text
shapes_sized t space e = rw (eq-eqb _ _ e, shapes_text)

-- ---- the text of a sheet

module _ (sheet : List ℕ) where
  -- The text of a well-formed sheet of version 1 is its table's,
  pub table_reply : well_formed sheet ≡ true → version sheet ≡ 1 → table_text (sheet_words sheet) (sheet_space sheet) ≡ reply_text sheet
  unfolding reply_text
  table_reply e v = rw (e, first_cause, eq-eqb _ _ v, first_cause)

  -- of version 2 its shapes',
  pub shapes_reply : well_formed sheet ≡ true → version sheet ≡ 2 → shapes_text (sheet_words sheet) (sheet_space sheet) ≡ reply_text sheet
  unfolding reply_text
  shapes_reply e v = rw (e, first_cause, ne_eqb (version sheet) 1 (λ z. omega (arith, v, z)), first_cause)

  -- and of any other sheet `bad sheet`.
  pub bad_reply : well_formed sheet ≡ false → bad_sheet_text ≡ reply_text sheet
  unfolding reply_text
  bad_reply e = rw (e, first_cause)
