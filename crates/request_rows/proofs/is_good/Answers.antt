-- `request_rows::is_good` meets its contract.
use Rattle.request_rows.proofs.Tests.{good_is}
use Rattle.request_rows.proofs.is_good.Goals as goal

pub returns : goal.returns
returns c = let u = c.args in good_is u.grid u.request c.is_good_offset.ensures
