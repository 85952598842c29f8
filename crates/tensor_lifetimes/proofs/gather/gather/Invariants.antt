-- `tensor_lifetimes::gather::gather` meets its contract: the uses so far are gathered.
use Rattle.tensor_lifetimes.proofs.Gathering.{Gathered}
use Rattle.tensor_lifetimes.proofs.gather.gather.Given as goal

abbrev pub invariant-loop-k : goal.invariant-loop-k
invariant-loop-k l = Gathered l.list.operators l.list.uses.now l.gathered l.k
