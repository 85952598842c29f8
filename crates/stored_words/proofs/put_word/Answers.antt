-- `stored_words::put_word` meets its contract: putting what is left gives what putting all would, and all are the definition's four.
use Rattle.std.proofs.Common.{arith, ap, ◌∙◌, length, ◌≡◌}
use Rattle.std.specs.Int.{to_le_bytes}
use mir.Syntax.{w32}
use mir.Val.{of_z, to_z}
use Rattle.word_bytes.proofs.Casts.{unsigned_is}
use Rattle.word_bytes.specs.Bytes.{unsigned_word, with_word}
use Rattle.words.proofs.Signed.{read}
use Rattle.stored_words.proofs.Ahead.{put, four_put, one_put, all_put}
use Rattle.stored_words.proofs.put_word.Goals as goal

pub loop-ahead-preserved : goal.loop-ahead-preserved
loop-ahead-preserved c =
    (rw c.put_byte.ensures (one_put _ _ c.args.at _ _ (omega (arith, ap length c.to_le_bytes.ensures)) c.loop-ahead.invariant.0), omega (arith, ap length c.to_le_bytes.ensures))

pub returns : goal.returns
unfolding with_word
returns c =
    let a = c.args in
    let bits : of_z w32 (to_z w32 (of_z w32 a.word)) ≡ unsigned_word a.word = ap (of_z w32) (read a.word c.ranges.word.sfits) ∙ unsigned_is a.word in
    all_put _ _ a.at _ _ (omega (arith, ap length c.to_le_bytes.ensures)) c.loop-ahead.invariant.0
    ∙ ap (put a.bytes.now a.at) (c.to_le_bytes.ensures ∙ ap (to_le_bytes w32) bits)
    ∙ four_put a.bytes.now a.at (unsigned_word a.word)
