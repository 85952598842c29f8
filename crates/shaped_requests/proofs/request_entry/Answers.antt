-- `shaped_requests::request_entry` meets its contract: a size fits a word.
use Prim.Native.Nat.{◌+◌, ◌*◌, ◌/◌, ◌%◌}
use mathlib.Core.Path.{◌≡◌, ◌∙◌, ap}
use native.Mathlib.Omega.{arith}
use borrow.Author.Rules.{rules, sfits_of}
use lib.IntN.{pos}
use mir.Facts.{to_z_pos}
use mir.Syntax.{w32}
use Rattle.answer.specs.declared.Answer.{Answer}
use Rattle.answer.specs.declared.Refusal.{Refusal}
use Rattle.answer.specs.Refusals.{answer_of}
use Rattle.answer.proofs.Told.{refusal_refuses}
use Rattle.bounded.proofs.Boolean.{lt_or_le}
use Rattle.bounded.proofs.Causes.{by_causes}
use Rattle.std.specs.Prelude.{ℕ, List, ℤ, Result, Ok, Err}
use Rattle.std.specs.Result.{result_unwrap_or}
use Rattle.std.proofs.Common.{⊎_elim, refl, sym, subst}
use Rattle.tensor_sizes.specs.ByteSize.{greatest_dimensions, size_causes, byte_size_of}
use Rattle.shape_rule.specs.ShapeTable.{dimensions, dimension_count, type_code, tensor_size}
use Rattle.shape_rule.proofs.ShapeAnswers.{many_dimensions, few_dimensions, size_within, size_word, own_word}
use Rattle.words.proofs.Signed.{read}
use Rattle.words.specs.Words.{word_at}
use Rattle.shaped_requests.proofs.request_entry.Goals as goal

-- a refusal of a shape carries no need,
refused_shape : (shape : List ℤ) (code : ℤ) → ((byte_size_of shape code).number ≡ 0 → ⊥) → (byte_size_of shape code).need ≡ 0
unfolding byte_size_of
refused_shape shape code =
    by_causes (λ (x : Answer). (x.number ≡ 0 → ⊥) → x.need ≡ 0) (size_causes shape code) _ (λ f. refl, (λ f. refl, (λ f. refl, (λ f. refl, tt)))) (λ n f. absurd (f refl))

-- and so does one of a row,
refused_row : (t : List ℤ) (r : ℕ) → ((tensor_size t r).number ≡ 0 → ⊥) → (tensor_size t r).need ≡ 0
refused_row t r =
    ⊎_elim
    (λ l. subst (λ (x : Answer). (x.number ≡ 0 → ⊥) → x.need ≡ 0) (many_dimensions t r l) (λ f. refl))
    (λ l. subst (λ (x : Answer). (x.number ≡ 0 → ⊥) → x.need ≡ 0) (few_dimensions t r l) (refused_shape (dimensions t r) (type_code t r)))
    (lt_or_le greatest_dimensions (dimension_count t r))

-- so that 0 stands for the need of a refused one.
need_or : (t : List ℤ) (r : ℕ) (size : Result ℕ Refusal) → answer_of size ≡ tensor_size t r → result_unwrap_or size 0 ≡ (tensor_size t r).need
need_or t r (Ok need) e = ap (λ (x : Answer). x.need) e
need_or t r (Err refusal) e = sym (refused_row t r (refusal_refuses refusal e))

-- the size that was found is within the limit
pub overflow_cast-result : goal.overflow_cast-result
overflow_cast-result c =
    let need = c.unwrap_or.ensures ∙ need_or _ _ _ c.size_of_row.ensures in
    sfits_of (omega (arith, need, size_within c.args.shapes.now (c.args.entry / 4)))

pub returns-then-column-eq0 : goal.returns-then-column-eq0
returns-then-column-eq0 c =
    let need = c.unwrap_or.ensures ∙ need_or _ _ _ c.size_of_row.ensures in
    to_z_pos w32 (omega (arith, need, size_within c.args.shapes.now (c.args.entry / 4))) ∙ ap pos need ∙ size_word _ _ _ c.if-column-eq0.true

pub returns : goal.returns
returns c =
    let s = c in
    let t = s.args.shapes.now in
    let e = s.args.entry in
    let place : e / 4 * 13 + 9 + e % 4 ≡ e / 4 * 13 + (9 + e % 4) = omega arith in
    read _ (search rules) ∙ ap (word_at t) place ∙ own_word t _ _ c.if-column-eq0.false
