-- `access_script::perform` meets its contract: the touches so far are performed.
use Rattle.access_script.proofs.Performing.{Performed}
use Rattle.access_script.proofs.perform.Given as goal

abbrev pub invariant-loop-k : goal.invariant-loop-k
invariant-loop-k l = Performed l.offsets l.accesses l.fn.arena l.fn.bytes l.arena l.bytes l.k
