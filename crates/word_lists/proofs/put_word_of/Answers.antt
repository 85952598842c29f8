-- `word_lists::put_word_of` meets its contract.
use Prim.Native.Nat.{◌*◌}
use mathlib.Core.Path.{sym}
use native.Mathlib.Omega.{arith}
use Rattle.word_bytes.proofs.BytesComeBack.{put_past}
use Rattle.word_lists.proofs.put_word_of.Goals as goal

pub returns-then-bytes-number : goal.returns-then-bytes-number
returns-then-bytes-number c = let a = c.args in sym (put_past a.bytes.now (a.number * 4) a.word (omega arith))
