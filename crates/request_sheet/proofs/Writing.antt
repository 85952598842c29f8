-- What the text's own functions write, where there is room for any text, stands in the lent bytes.
use Rattle.std.specs.Prelude.{ℕ, ◌≤◌, Option}
use mathlib.Core.Bool.{true}
use mathlib.Core.List.{List}
use mathlib.Core.Path.{◌≡◌, ◌∙◌}
use borrow.Author.Tests.{le-leb}
use lib.Dec.{leb}
use Rattle.bounded.proofs.Boolean.{both_hold}
use Rattle.plan_text.specs.Written.{has_room, written_length, written_into}
use Rattle.text_pieces.specs.Replied.{Stands}
use Rattle.request_table.specs.Limits.{greatest_rows}
use Rattle.text_rule.specs.Text.{greatest_text}

-- Where there is room, what is written stands.
pub written : {n room : ℕ} {count : Option ℕ} {text before after : List ℕ} → n ≤ greatest_rows → greatest_text ≤ room
    → count ≡ written_length (has_room n room) text → after ≡ written_into (has_room n room) text before → Stands text before after count
unfolding has_room written_length written_into
written {n} {room} few roomy p q =
    let yes : has_room n room ≡ true = both_hold (leb n greatest_rows) (leb greatest_text room) (le-leb n greatest_rows few) (le-leb greatest_text room roomy) in
    record { count_is = p ∙ rw (yes, written_length); bytes_are = q ∙ rw (yes, written_into) }
