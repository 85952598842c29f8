-- Law: what is replied to a sheet, and when, in document 01's words: no room, which is number 3, before anything else; `bad sheet` for a sheet whose mark,
-- version or length is wrong; of version 2 the first bad shape with its row; else the plan, or `refused N a b need`, as the planner answers. The text
-- stands in front of the lent bytes.
use Rattle.std.specs.Prelude.{ℕ, ◌<◌, ◌≤◌, Bool, true, false, List, ◌++◌, ◌⊎◌, Some, None, ◌≡◌, refl, ℤ, length, drop}
use Rattle.std.proofs.Common.{inl, inr, ◌∙◌, subst, arith}
use Rattle.std.proofs.Math.Path.{sym, ap}
use Rattle.answer.specs.Answer.{number_of as answer_number, done_with, refused_at}
use Rattle.answer.specs.declared.Answer.{Answer}
use Rattle.bounded.proofs.Boolean.{contrary, lt_or_le, same_or_not}
use Rattle.bounded.specs.Lowest.{Lowest}
use Rattle.greedy_rule.proofs.Answers.{done_says, done_of}
use Rattle.greedy_rule.specs.Greedy.{greedy_plan}
use Rattle.greedy_rule.specs.Plan.{plan_of, greedy_need}
use Rattle.text_rule.specs.Text.{plan_text, answer_text, refused_text, bad_sheet_text, greatest_text}
use Rattle.text_rule.proofs.TextCases.{done_text, refused_text_lem}
use Rattle.request_table.specs.Limits.{grid}
use Rattle.request_table.specs.Table.{rows}
use Rattle.shape_rule.specs.ShapeOutcomes.{ShapesOutcome, lowest_bad, all_good}
use Rattle.shape_rule.proofs.ShapeOutcomes.{shapes_outcome}
use Rattle.shape_rule.specs.ShapeTable.{tensor_size}
use Rattle.shape_rule.specs.Sized.{sized_table}
use Rattle.shape_rule.proofs.SizedRows.{sized_rows}
use Rattle.sheet_rule.specs.GoodSheets.{Form, requests, shapes, Good, GoodSheet}
use Rattle.sheet_rule.proofs.GoodSheets.{well_says, well_of}
use Rattle.sheet_rule.proofs.ReadSheets.{rows_are, shapes_are}
use Rattle.sheet_rule.specs.Sheet.{well_formed, row_count, sheet_words, sheet_space}
use Rattle.reply_rule.proofs.Replies.{shapes_refused, shapes_sized, table_reply, shapes_reply, bad_reply}
use Rattle.reply_rule.specs.Reply.{table_text, reply_text, reply_of, text_after}
use Rattle.text_pieces.proofs.Replied.{no_room, reply_stands}

module _ (sheet text : List ℕ) where
  -- The reply is this text, in front of the lent bytes.
  pub record Told (words : List ℕ) : Type 0 where
    pub reply_is : reply_of sheet (length text) ≡ Some (length words)
    pub bytes_are : text_after sheet text ≡ words ++ drop (length words) text

  -- The request table that a sheet gives: its rows in version 1; in version 2, where no shape is bad, the rows that the shapes' sizes make.
  pub data TableOf : List ℤ → Type 0 where
    of_requests : GoodSheet sheet 1 16 → TableOf (sheet_words sheet)
    of_shapes : GoodSheet sheet 2 52 → ((r : ℕ) → r < row_count sheet → (tensor_size (sheet_words sheet) r).number ≡ 0) → TableOf (sized_table (sheet_words sheet))

  -- What may be replied.
  pub data Outcome : Type 0 where
    too_few_bytes : length text < greatest_text → reply_of sheet (length text) ≡ None → text_after sheet text ≡ text → Outcome
    bad_sheet : greatest_text ≤ length text → (Good sheet → ⊥) → Told bad_sheet_text → Outcome
    bad_shape_case : (a : ℕ) → greatest_text ≤ length text → GoodSheet sheet 2 52 → Lowest (λ r. (tensor_size (sheet_words sheet) r).number ≡ 0 → ⊥) (row_count sheet) a
        → Told (refused_text (refused_at (tensor_size (sheet_words sheet) a).number a)) → Outcome
    planned : (t : List ℤ) → greatest_text ≤ length text → TableOf t → plan_of grid t (sheet_space sheet) (row_count sheet) ≡ done_with (greedy_need grid t)
        → Told (plan_text (greedy_need grid t) (greedy_plan grid t) (row_count sheet)) → Outcome
    refused : (t : List ℤ) → greatest_text ≤ length text → TableOf t → ((plan_of grid t (sheet_space sheet) (row_count sheet)).number ≡ 0 → ⊥)
        → Told (refused_text (plan_of grid t (sheet_space sheet) (row_count sheet))) → Outcome

  told : {words : List ℕ} → greatest_text ≤ length text → words ≡ reply_text sheet → Told words
  told l e =
      let s = reply_stands greatest_text (reply_text sheet) text l record { count_is = refl; bytes_are = refl } in
      record { reply_is = sym s.0 ∙ ap (λ (xs : List ℕ). Some (length xs)) (sym e); bytes_are = sym s.1 ∙ ap (λ (xs : List ℕ). xs ++ drop (length xs) text) (sym e) }

  module _ (l : greatest_text ≤ length text) (t : List ℤ) (rows_t : rows t ≡ row_count sheet) (of : TableOf t) (e : table_text t (sheet_space sheet) ≡ reply_text sheet) where
    answer : Answer
    answer = plan_of grid t (sheet_space sheet) (row_count sheet)

    table : answer_text answer (greedy_plan grid t) (row_count sheet) ≡ reply_text sheet
    unfolding answer table_text
    table = ap (λ (n : ℕ). answer_text (plan_of grid t (sheet_space sheet) n) (greedy_plan grid t) n) (sym rows_t) ∙ e

    by_number : (answer.number ≡ 0) ⊎ (answer.number ≡ 0 → ⊥) → Outcome
    unfolding answer
    by_number (inl z) =
        let d : answer ≡ done_with (greedy_need grid t) = done_of _ _ _ _ (done_says grid t (sheet_space sheet) (row_count sheet) z) in
        let plan = sym (done_text (done_with (greedy_need grid t)) (greedy_plan grid t) (row_count sheet) refl) in
        planned t l of d (told l (plan ∙ ap (λ (x : Answer). answer_text x (greedy_plan grid t) (row_count sheet)) (sym d) ∙ table))
    by_number (inr f) = refused t l of f (told l (sym (refused_text_lem answer (greedy_plan grid t) (row_count sheet) f) ∙ table))

    of_table : Outcome
    unfolding answer
    of_table = by_number (same_or_not (plan_of grid t (sheet_space sheet) (row_count sheet)).number 0)

  of_judged : greatest_text ≤ length text → well_formed sheet ≡ true → GoodSheet sheet 2 52 → ShapesOutcome (sheet_words sheet) → Outcome
  of_judged l w g (lowest_bad a h d) =
      let n = (shapes_are sheet g.version_is).1 in
      bad_shape_case a l g (subst (λ (m : ℕ). Lowest (λ r. (tensor_size (sheet_words sheet) r).number ≡ 0 → ⊥) m a) n h)
      (told l
      (ap refused_text (sym d)
      ∙ shapes_refused (sheet_words sheet) (sheet_space sheet) (λ z. h.here (sym (ap answer_number d) ∙ z))
      ∙ shapes_reply sheet w g.version_is))
  of_judged l w g (all_good f d) =
      let n = (shapes_are sheet g.version_is).1 in
      of_table l (sized_table (sheet_words sheet)) (sized_rows (sheet_words sheet) ∙ n) (of_shapes g (λ r m. f r (omega (arith, n))))
      (shapes_sized (sheet_words sheet) (sheet_space sheet) (ap answer_number d) ∙ shapes_reply sheet w g.version_is)

  of_good : greatest_text ≤ length text → well_formed sheet ≡ true → {number bytes : ℕ} → Form number bytes → GoodSheet sheet number bytes → Outcome
  of_good l w requests g = of_table l (sheet_words sheet) (rows_are sheet g.version_is) (of_requests g) (table_reply sheet w g.version_is)
  of_good l w shapes g = of_judged l w g (shapes_outcome (sheet_words sheet))

  -- So it is replied.
  pub outcome : Outcome
  outcome = go (lt_or_le (length text) greatest_text) (well_formed sheet) refl
    where
      go : (length text < greatest_text) ⊎ (greatest_text ≤ length text) → (b : Bool) → well_formed sheet ≡ b → Outcome
      go (inl l) b w = let n = no_room greatest_text (reply_text sheet) text l in too_few_bytes l (sym n.0) (sym n.1)
      go (inr l) false w = bad_sheet l (λ g. contrary (well_of sheet g.form g.good) w) (told l (bad_reply sheet w))
      go (inr l) true w = let g = well_says sheet w in of_good l w g.form g.good
