-- `accesses::is_good` meets its contract.
use Rattle.std.proofs.Common.{rules}
use Rattle.std.specs.Prelude.{leb, ◌≡◌}
use Rattle.access_rule.specs.Accesses.{allowed}
use Rattle.accesses.proofs.Judging.{good_is}
use Rattle.accesses.proofs.is_good.Goals as goal

pub returns : goal.returns
returns c =
    let a = c.access_at-access.result in
    let x = c.request-request.result in
    let rises : c.le-rises.result ≡ leb c.moment_before.result.0 a.moment.0 = search rules in
    let begun : c.le.result ≡ leb x.first.0 a.moment.0 = search rules in
    let lasting : c.le-2.result ≡ leb a.moment.0 x.last.0 = search rules in
    let ok : c.is_none_or-allowed.result ≡ allowed a = search rules in
    good_is _ _ _ c.access_at-access.ensures c.request-request.ensures c.moment_before.ensures c.rows.ensures rises begun lasting ok
