-- What writing a text leaves in lent bytes: the text in front, the rest as it was. Nothing is written where the bytes are fewer than the longest text has
-- or the offsets more than a plan has, so that no text is ever cut.
use Rattle.std.specs.Prelude.{ℕ, Bool, true, false, ◌&&◌, Option, Some, None, List, ◌++◌, leb, length, drop}
use Rattle.request_table.specs.Limits.{greatest_rows}
use Rattle.text_rule.specs.Text.{greatest_text}

-- Whether lent bytes have room for any text over so many offsets.
unfoldable pub has_room : ℕ → ℕ → Bool
has_room n room = leb n greatest_rows && leb greatest_text room

-- The length of the text written; none where there is no room.
unfoldable pub written_length : Bool → List ℕ → Option ℕ
written_length roomy text = elim roomy [ true ↦ Some (length text) | false ↦ None ]

-- The lent bytes in the end.
unfoldable pub written_into : Bool → List ℕ → List ℕ → List ℕ
written_into roomy text bytes = elim roomy [ true ↦ text ++ drop (length text) bytes | false ↦ bytes ]
