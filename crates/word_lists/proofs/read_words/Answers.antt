-- `word_lists::read_words` meets its contract: the entries so far are words of the bytes.
use Prim.Native.Nat.{ℕ}
use mathlib.Core.Path.{◌≡◌, sym, ◌∙◌, ap, ap₂}
use native.Mathlib.Omega.{arith}
use lib.IntN.{ℤ}
use lib.ListN.{length, set}
use mathlib.Core.List.{List}
use Rattle.bounded.specs.Replaced.{replaced}
use Rattle.bounded.proofs.Replaced.{replaced_none, replaced_more, replaced_length}
use Rattle.words.proofs.Signed.{read}
use Rattle.word_lists.proofs.Turns.{all_read}
use Rattle.word_lists.proofs.read_words.Goals as goal

-- a table of which some entries were replaced is as long as it was
as_long : {table : List ℤ} (f : ℕ → ℤ) (n : ℕ) (was : List ℤ) → table ≡ replaced f n was → length table ≡ length was
as_long f n was e = ap length e ∙ replaced_length f n was

pub loop-number-init : goal.loop-number-init
loop-number-init c = (sym (replaced_none _ _), omega arith)

pub loop-number-preserved : goal.loop-number-preserved
loop-number-preserved c =
    let word = read c.word_of.result c.word_of.type_inv ∙ c.word_of.ensures in
    let kept : length c.loop-number.table ≡ length c.args.table.now = as_long _ _ _ c.loop-number.invariant.0 in
    (ap₂ (λ xs z. set xs c.loop-number.number z) c.loop-number.invariant.0 word ∙ replaced_more _ _ _, omega (arith, kept))

pub returns : goal.returns
returns c =
    let kept : length c.loop-number.table ≡ length c.args.table.now = as_long _ _ _ c.loop-number.invariant.0 in
    c.loop-number.invariant.0 ∙ all_read _ _ (omega (arith, kept))
