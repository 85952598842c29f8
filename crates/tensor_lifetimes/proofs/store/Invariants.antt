-- `tensor_lifetimes::store` meets its contract: the entries so far are replaced.
use Prim.Native.Nat.{◌*◌, ◌≤◌}
use mathlib.Core.Path.{◌≡◌}
use Rattle.bounded.specs.Replaced.{replaced}
use Rattle.tensor_lifetimes.specs.Gathered.{stored_word}
use Rattle.tensor_lifetimes.proofs.store.Given as goal

abbrev pub invariant-loop-tensor : goal.invariant-loop-tensor
invariant-loop-tensor l = (l.lifetimes ≡ replaced (stored_word l.gathered) (l.tensor * 2) l.initial.lifetimes) × (l.tensor ≤ l.tensors)
