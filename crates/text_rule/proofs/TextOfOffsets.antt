-- A text depends on the offsets of its rows alone, and a refusal's on none.
use Rattle.std.specs.Prelude.{ℕ, ◌<◌, List, ◌++◌, ◌≡◌}
use Rattle.std.proofs.Common.{⊎_elim, sym, ◌∙◌, ap}
use Rattle.answer.specs.Answer.{done}
use Rattle.answer.specs.declared.Answer.{Answer}
use Rattle.bounded.proofs.Boolean.{same_or_not}
use Rattle.text_pieces.proofs.Pieces.{lines_same}
use Rattle.text_rule.specs.Text.{head_line, row_line, row_lines, plan_text, answer_text}
use Rattle.text_rule.proofs.TextCases.{done_text, refused_text_lem}

-- Offsets that agree on the rows give the same lines.
pub rows_same : (f g : ℕ → ℕ) (n : ℕ) → ((r : ℕ) → r < n → f r ≡ g r) → row_lines f n ≡ row_lines g n
rows_same f g n h = lines_same (λ (row : ℕ). row_line row (f row)) (λ (row : ℕ). row_line row (g row)) n (λ r l. ap (row_line r) (h r l))

-- Offsets that agree on the rows of a done answer give it the same text.
pub answer_same : (x : Answer) (f g : ℕ → ℕ) (n : ℕ) → (x.number ≡ done → (r : ℕ) → r < n → f r ≡ g r) → answer_text x f n ≡ answer_text x g n
unfolding plan_text
answer_same x f g n h =
    ⊎_elim
    (λ e. done_text x f n e ∙ ap (λ (xs : List ℕ). head_line x.need ++ xs) (rows_same f g n (h e)) ∙ sym (done_text x g n e))
    (λ e. refused_text_lem x f n e ∙ sym (refused_text_lem x g n e))
    (same_or_not x.number done)
