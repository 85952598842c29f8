-- `shaped_requests::size_of_row` meets its contract: a negative number of dimensions reads as more than eight.
use Prim.Native.Nat.{ℕ, ◌+◌, ◌*◌, ◌-◌}
use mathlib.Core.Path.{◌≡◌, ◌∙◌, ap, ap₂}
use native.Mathlib.Omega.{arith}
use borrow.Author.Rules.{rules}
use lib.ListN.{take, drop}
use Rattle.answer.specs.Refusals.{told}
use Rattle.shape_rule.proofs.ShapeAnswers.{many_dimensions, few_dimensions}
use Rattle.shape_rule.specs.ShapeTable.{dimension_count}
use Rattle.tensor_sizes.specs.ByteSize.{byte_size_of}
use Rattle.words.proofs.Signed.{read}
use Rattle.words.specs.Words.{word_at}
use Rattle.shaped_requests.proofs.size_of_row.Goals as goal

pub returns-then-count-gt-GREATEST_DIMENSIONS : goal.returns-then-count-gt-GREATEST_DIMENSIONS
returns-then-count-gt-GREATEST_DIMENSIONS c = ap told c.of.ensures ∙ many_dimensions _ _ (rw c.natural-count.ensures at c.if-count-gt-GREATEST_DIMENSIONS.true)

pub returns : goal.returns
returns c =
    let code = c in
    let s = code in
    let t = s.args.shapes.now in
    let r = s.args.row.0 in
    let n = code.natural-count.ensures in
    let front : r * 13 ≡ r * 13 + 0 = omega arith in
    let there : r * 13 + 2 + code.natural-count.result - (r * 13 + 2) ≡ dimension_count t r = omega (arith, n) in
    c.try_byte_size.ensures
    ∙ ap₂ byte_size_of (ap (λ (k : ℕ). take k (drop (r * 13 + 2) t)) there) (read _ (search rules) ∙ ap (word_at t) front)
    ∙ few_dimensions t r (rw n at code.if-count-gt-GREATEST_DIMENSIONS.false)
