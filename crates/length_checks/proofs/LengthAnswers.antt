-- Law: which of the checks 1, 2 and 3 is told, case by case.
use Rattle.std.specs.Prelude.{Bool, true, false, ◌≡◌, refl}
use Rattle.answer.specs.Answer.{refused, done_with, not_whole_rows, too_many, table_too_short}
use Rattle.answer.specs.declared.Answer.{Answer}
use Rattle.bounded.specs.Causes.{Gives}
use Rattle.length_checks.specs.LengthChecks.{length_causes, lengths_of}

-- A table that is not whole rows is told whatever else holds,
pub ragged_told : (many short : Bool) → lengths_of true many short ≡ refused not_whole_rows
unfolding lengths_of
ragged_told many short = refl

-- then too many, whatever the room,
pub many_told : (short : Bool) → lengths_of false true short ≡ refused too_many
unfolding lengths_of
many_told short = refl

-- then the room,
pub short_told : lengths_of false false true ≡ refused table_too_short
unfolding lengths_of
short_told = refl

-- and where none holds they pass.
pub none_told : lengths_of false false false ≡ done_with 0
unfolding lengths_of
none_told = refl

-- What is given, as the code goes through the tests, is the answer.
pub lengths_given : (ragged many short : Bool) {x : Answer} → Gives (length_causes ragged many short) (done_with 0) x → x ≡ lengths_of ragged many short
unfolding lengths_of
lengths_given ragged many short g = g.is
