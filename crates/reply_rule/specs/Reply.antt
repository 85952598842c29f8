-- The reply to a request sheet (document 01): the program "prints the plan, or `refused N a b need`, or `bad sheet`". A sheet is planned as the table of
-- its rows in its space, with room for every row; one of version 2 (document 02, order 1) as the table that its shapes' sizes make. What a sheet says
-- (`sheet_rule`) and the text of an answer (`text_rule`) meet here alone.
use Rattle.std.specs.Prelude.{ℕ, true, false, not, List, [], ◌∷◌, eqb, ℤ, Option}
use Rattle.answer.specs.Answer.{done}
use Rattle.bounded.specs.Causes.{◌⇒◌, first_cause}
use Rattle.greedy_rule.specs.Greedy.{greedy_plan}
use Rattle.greedy_rule.specs.Plan.{plan_of}
use Rattle.text_rule.specs.Text.{answer_text, refused_text, bad_sheet_text, greatest_text}
use Rattle.request_table.specs.Limits.{grid}
use Rattle.request_table.specs.Table.{rows}
use Rattle.shape_rule.specs.Sized.{sized_table, shapes_of}
use Rattle.sheet_rule.specs.Sheet.{well_formed, version, sheet_words, sheet_space}
use Rattle.text_pieces.specs.Replied.{reply_with, left_with}

-- What is told of a table in a space: the planner's answer with room for every row, and where it is done each row's offset.
unfoldable pub table_text : List ℤ → ℕ → List ℕ
table_text t space = answer_text (plan_of grid t space (rows t)) (greedy_plan grid t) (rows t)

-- What is told of shapes in a space: "Shapes are judged before the plan, and the first bad one is printed with a = its row"; else their table's text.
unfoldable pub shapes_text : List ℤ → ℕ → List ℕ
shapes_text t space = elim (eqb (shapes_of t).number done) [ true ↦ table_text (sized_table t) space | false ↦ refused_text (shapes_of t) ]

-- The text: `bad sheet`, or that of the sheet's requests in its space, or of its shapes.
unfoldable pub reply_text : List ℕ → List ℕ
reply_text sheet =
    first_cause
    ((not (well_formed sheet) ⇒ bad_sheet_text)
    ∷ (eqb (version sheet) 1 ⇒ table_text (sheet_words sheet) (sheet_space sheet))
    ∷ [])
    (shapes_text (sheet_words sheet) (sheet_space sheet))

-- The answer: none, no room, where the lent bytes are fewer than the longest text has, tested first; else how many bytes the text has.
abbrev pub reply_of : List ℕ → ℕ → Option ℕ
reply_of sheet room = reply_with greatest_text (reply_text sheet) room

-- The lent bytes in the end: the text in front and the rest as it was; where there is no room, all stays.
abbrev pub text_after : List ℕ → List ℕ → List ℕ
text_after sheet text = left_with greatest_text (reply_text sheet) text
