-- `tensor_lifetimes::gather::gather` meets its contract: the uses so far are gathered.
use Rattle.std.specs.Prelude.{ℕ, ◌<◌, ◌≤◌, List, ◌≡◌, ℤ}
use native.Mathlib.Omega.{arith}
use Rattle.lifetime_rule.specs.Uses.{greatest_operators, greatest_tensors, count, use_at}
use Rattle.lifetime_rule.specs.declared.Use.{Use}
use Rattle.tensor_lifetimes.specs.Gathered.{GoodList}
use Rattle.tensor_lifetimes.proofs.Gathering.{gathered_start, gathered_more, within_limits}
use Rattle.tensor_lifetimes.proofs.gather.gather.Goals as goal

pub loop-k-init : goal.loop-k-init
loop-k-init c = gathered_start _ _ c.filled-gathered.ensures

-- the use that was read is within the limits
read_within : {operators : ℕ} {u : List ℤ} → GoodList operators u → {n k : ℕ} {x : Use} → n ≡ count u → k < n → x ≡ use_at u k
    → (x.tensor.0 < greatest_tensors) × (x.operator.0 ≤ greatest_operators)
read_within good counted below e = within_limits good e (rw counted at below)

pub offset_bounds-gathered-at : goal.offset_bounds-gathered-at
offset_bounds-gathered-at c = omega (arith, (read_within c.requires c.count-k-end.ensures c.loop-k-test.true c.usage-usage.ensures).0)

pub bounds-gathered-at : goal.bounds-gathered-at
bounds-gathered-at c = (read_within c.requires c.count-k-end.ensures c.loop-k-test.true c.usage-usage.ensures).0

pub offset_bounds-gathered-at-in-loop-k : goal.offset_bounds-gathered-at-in-loop-k
offset_bounds-gathered-at-in-loop-k c = omega (arith, (read_within c.requires c.count-k-end.ensures c.loop-k-test.true c.usage-usage.ensures).0)

pub bounds-gathered-at-in-loop-k : goal.bounds-gathered-at-in-loop-k
bounds-gathered-at-in-loop-k c = (read_within c.requires c.count-k-end.ensures c.loop-k-test.true c.usage-usage.ensures).0

pub loop-k-preserved : goal.loop-k-preserved
loop-k-preserved c =
    gathered_more c.requires c.loop-k.invariant (rw c.count-k-end.ensures at c.loop-k-test.true) c.usage-usage.ensures c.with.ensures
