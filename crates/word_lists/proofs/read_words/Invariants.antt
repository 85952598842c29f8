-- `word_lists::read_words` meets its contract: the entries so far are words of the bytes.
use Prim.Native.Nat.{◌*◌, ◌≤◌}
use mathlib.Core.Path.{◌≡◌}
use lib.ListN.{length}
use Rattle.bounded.specs.Replaced.{replaced}
use Rattle.word_bytes.specs.Bytes.{word_of}
use Rattle.word_lists.proofs.read_words.Given as goal

abbrev pub invariant-loop-number : goal.invariant-loop-number
invariant-loop-number l = (l.table ≡ replaced (λ k. word_of l.bytes (k * 4)) l.number l.initial.table) × (l.number ≤ length l.initial.table)
