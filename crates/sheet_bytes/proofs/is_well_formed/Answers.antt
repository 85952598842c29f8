-- `sheet_bytes::is_well_formed` meets its contract: no length wraps, since a row has thirteen words at most.
use Prim.Native.Nat.{ℕ, ◌*◌, ◌≤◌}
use mathlib.Core.Path.{◌≡◌, ◌∙◌, ap}
use native.Mathlib.Nat.{mul-le-mul}
use native.Mathlib.Omega.{arith}
use Rattle.sheet_rule.proofs.GoodSheets.{few_words}
use Rattle.sheet_rule.specs.Sheet.{well_formed, row_words}
use Rattle.sheet_bytes.proofs.is_well_formed.Goals as goal

-- no row has more than thirteen words
thirteen : (number : ℕ) {words : ℕ} → words ≡ row_words number → words ≤ 13
thirteen number e = rw e (few_words number)

-- no row is so long that all are too many
few : (number rows : ℕ) {words : ℕ} → words ≡ row_words number → rows ≤ 4294967295 → rows * words ≤ 4294967295 * 13
few number rows e l = mul-le-mul l (thirteen number e)

pub overflow_mul-whole : goal.overflow_mul-whole
overflow_mul-whole c = omega (arith, few _ c.unsigned16-rows.result c.row_words-words.ensures (omega arith))

pub overflow_mul-whole-2 : goal.overflow_mul-whole-2
overflow_mul-whole-2 c = omega (arith, few _ c.unsigned16-rows.result c.row_words-words.ensures (omega arith))

pub overflow_add-whole : goal.overflow_add-whole
overflow_add-whole c = omega (arith, few _ c.unsigned16-rows.result c.row_words-words.ensures (omega arith))

pub overflow_mul-result : goal.overflow_mul-result
overflow_mul-result c = omega (arith, thirteen _ c.row_words-words.ensures)

pub overflow_mul-result-2 : goal.overflow_mul-result-2
overflow_mul-result-2 c = omega (arith, thirteen _ c.row_words-words.ensures)

pub overflow_add-result : goal.overflow_add-result
overflow_add-result c = omega (arith, thirteen _ c.row_words-words.ensures)

pub returns : goal.returns
unfolding well_formed
returns c =
    let words = c.row_words-words.ensures ∙ ap row_words c.unsigned16.ensures in
    rw (c.unsigned16-rows.ensures, words, c.is_marked.ensures)
