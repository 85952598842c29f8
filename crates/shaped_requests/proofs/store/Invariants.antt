-- `shaped_requests::store` meets its contract: of the entries in front, those so far are replaced.
use Prim.Native.Nat.{◌≤◌}
use mathlib.Core.Path.{◌≡◌}
use Rattle.bounded.specs.Replaced.{replaced}
use Rattle.shape_rule.specs.Sized.{request_entry}
use Rattle.shaped_requests.proofs.store.Given as goal

abbrev pub invariant-loop-entry : goal.invariant-loop-entry
invariant-loop-entry l = (l.word-items ≡ replaced (request_entry l.shapes) l.entry l.initial.word-items) × (l.entry ≤ l.entries)
