-- `word_lists::write_words` meets its contract: putting what is left gives what putting all would.
use Prim.Native.Nat.{◌*◌}
use mathlib.Core.Path.{◌≡◌, ◌∙◌, ap}
use native.Mathlib.Omega.{arith}
use borrow.Author.Rules.{rules}
use lib.IntN.{pos}
use lib.ListN.{length, get_or}
use Rattle.word_bytes.specs.Bytes.{with_word}
use Rattle.word_bytes.proofs.BytesComeBack.{length_kept}
use Rattle.words.proofs.Signed.{read}
use Rattle.word_lists.proofs.Turns.{one_put, all_put}
use Rattle.word_lists.proofs.write_words.Goals as goal

pub loop-number-preserved : goal.loop-number-preserved
loop-number-preserved c =
    let at = c in
    let table = at.args.table.now in
    let word : c.put_word_of.new.bytes ≡ with_word at.loop-number.bytes (at.loop-number.number * 4) (get_or table at.loop-number.number (pos 0)) =
    c.put_word_of.ensures ∙ ap (with_word at.loop-number.bytes (at.loop-number.number * 4)) (read (get_or table at.loop-number.number (pos 0)) (search rules)) in
    (rw word (one_put _ _ table at.loop-number.number (omega arith) at.loop-number.invariant.0), omega arith, ap length word ∙ length_kept _ _ _ ∙ at.loop-number.invariant.2)

pub returns : goal.returns
returns c = all_put _ _ _ c.loop-number.number (omega arith) c.loop-number.invariant.0
