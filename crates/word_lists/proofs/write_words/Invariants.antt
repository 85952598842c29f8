-- `word_lists::write_words` meets its contract: putting what is left gives what putting all would.
use Prim.Native.Nat.{◌*◌, ◌≤◌}
use mathlib.Core.Path.{◌≡◌}
use lib.ListN.{length, drop}
use Rattle.word_lists.specs.WordLists.{with_words}
use Rattle.word_lists.proofs.write_words.Given as goal

abbrev pub invariant-loop-number : goal.invariant-loop-number
invariant-loop-number l = (with_words l.bytes (l.number * 4) (drop l.number l.table) ≡ with_words l.initial.bytes 0 l.table) × (l.number ≤ length l.table) × (length l.bytes ≡ length l.initial.bytes)
