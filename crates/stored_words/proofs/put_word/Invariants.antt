-- `stored_words::put_word` meets its contract: putting what is left gives what putting all would.
use Rattle.std.specs.Prelude.{◌≡◌, ◌+◌, ◌≤◌, drop, length}
use Rattle.stored_words.proofs.Ahead.{put}
use Rattle.stored_words.proofs.put_word.Given as goal

abbrev pub invariant-loop-ahead : goal.invariant-loop-ahead
invariant-loop-ahead l = (put l.bytes (l.at + l.ahead) (drop l.ahead l.byte-items) ≡ put l.initial.bytes l.at l.byte-items) × (l.ahead ≤ length l.byte-items)
