-- The two kinds of text that an answer has.
use Rattle.std.specs.Prelude.{ℕ, ◌≡◌}
use Rattle.std.proofs.Common.{ne_eqb}
use Rattle.answer.specs.declared.Answer.{Answer}
use Rattle.answer.specs.Answer.{done}
use Rattle.text_rule.specs.Text.{plan_text, refused_text, answer_text}

-- The text of an answer that is done is the plan,
pub done_text : (x : Answer) (offset_of : ℕ → ℕ) (n : ℕ) → x.number ≡ done → answer_text x offset_of n ≡ plan_text x.need offset_of n
unfolding answer_text
done_text x offset_of n e = rw e

-- and of any other the refusal.
pub refused_text_lem : (x : Answer) (offset_of : ℕ → ℕ) (n : ℕ) → (x.number ≡ done → ⊥) → answer_text x offset_of n ≡ refused_text x
unfolding answer_text
refused_text_lem x offset_of n f = rw (answer_text, ne_eqb x.number done f)
