-- `requests::check_shape` meets its contract: the three tests are those of the list.
use Rattle.length_checks.specs.LengthChecks.{lengths_of}
use Rattle.request_table.specs.Checks.{shape_of}
use Rattle.requests.proofs.check_shape.Goals as goal

pub returns : goal.returns
unfolding lengths_of shape_of
returns c = c.check.ensures
