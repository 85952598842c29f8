-- `accesses::access_at` meets its contract.
use Rattle.std.proofs.Common.{arith, rules}
use Rattle.std.specs.Prelude.{◌≡◌}
use Rattle.access_rule.specs.Accesses.{write_of}
use Rattle.request_table.specs.Table.{word}
use Rattle.accesses.proofs.Judging.{access_is, access_past}
use Rattle.accesses.proofs.access_at.Goals as goal

pub returns-then-accesses-k : goal.returns-then-accesses-k
returns-then-accesses-k c = access_past _ _ (omega arith)

pub returns : goal.returns
returns c =
    let write : c.if-reads.write ≡ write_of (word c.args.accesses.now c.args.k 3) = search rules in
    access_is c.args.accesses.now c.args.k c.natural-moment.ensures c.natural-row.ensures c.natural-index.ensures write
