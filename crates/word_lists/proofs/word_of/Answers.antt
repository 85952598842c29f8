-- `word_lists::word_of` meets its contract.
use Prim.Native.Nat.{◌*◌}
use mathlib.Core.Path.{sym}
use native.Mathlib.Omega.{arith}
use Rattle.word_bytes.proofs.BytesComeBack.{word_past}
use Rattle.word_lists.proofs.word_of.Goals as goal

pub returns-then-bytes-number : goal.returns-then-bytes-number
returns-then-bytes-number c = let a = c.args in sym (word_past a.bytes.now (a.number * 4) (omega arith))
