-- `access_script::perform` meets its contract: the touches so far are performed.
use Rattle.std.proofs.Common.{arith}
use Rattle.access_script.proofs.Performing.{performed_start, performed_more, performed_done, arena_long, bytes_long, ready_touch}
use Rattle.access_script.proofs.perform.Goals as goal

pub loop-k-init : goal.loop-k-init
loop-k-init c = performed_start _ _ _ _

pub touch-requires : goal.touch-requires
touch-requires c =
    let j = ready_touch c.requires c.access_at.ensures (omega arith) in
    record { access_in_bounds = rw (arena_long c.loop-k.invariant) j.0; access_value = j.1 }

pub bounds-bytes-k : goal.bounds-bytes-k
bounds-bytes-k c = omega (arith, bytes_long c.loop-k.invariant, c.requires.roomy)

pub loop-k-preserved : goal.loop-k-preserved
loop-k-preserved c = performed_more c.loop-k.invariant c.loop-k-test.true c.access_at.ensures c.touch.ensures.arena c.touch.ensures.byte

pub returns : goal.returns
returns c =
    let p = performed_done c.loop-k.invariant c.loop-k-test.false in
    record { arena = p.0; bytes = p.1 }
