-- A text is written whole or not at all: what the definitions of the written bytes say in each of the two cases.
use Rattle.std.specs.Prelude.{ℕ, ◌≤◌, Bool, true, false, Some, None, List, ◌≡◌, refl, leb, length}
use Rattle.std.proofs.Common.{ap, arith, leb-true}
use Rattle.bounded.proofs.Boolean.{both}
use Rattle.request_table.specs.Limits.{greatest_rows}
use Rattle.text_pieces.specs.Put.{Put, Room}
use Rattle.text_pieces.proofs.Put.{put_at_start}
use Rattle.text_rule.specs.Text.{greatest_text}
use Rattle.plan_text.specs.Written.{has_room, written_length, written_into}

-- Where there is room, the offsets are no more than a plan has, and the bytes no fewer than any text has.
pub room_says : (n room : ℕ) → has_room n room ≡ true → (n ≤ greatest_rows) × (greatest_text ≤ room)
unfolding has_room
room_says n room e =
    let b = both (leb n greatest_rows) (leb greatest_text room) e in
    (leb-true n greatest_rows b.0, leb-true greatest_text room b.1)

-- There it holds any piece that is no longer than a text can be.
pub room_for : (n : ℕ) (t piece : List ℕ) → has_room n (length t) ≡ true → length piece ≤ greatest_text → Room t 0 piece
room_for n t piece e l = record { holds = omega (arith, l, (room_says n (length t) e).1) }

-- With room, the text stands in front.
pub whole_written : {roomy : Bool} {t u text : List ℕ} {e : ℕ} → roomy ≡ true → Put t u 0 e text
    → (Some e ≡ written_length roomy text) × (u ≡ written_into roomy text t)
unfolding written_length written_into
whole_written r x = let put = put_at_start x in rw r (ap Some put.0, put.1)

-- With none, nothing changes.
pub nothing_written : {roomy : Bool} (t text : List ℕ) → roomy ≡ false → (None ≡ written_length roomy text) × (t ≡ written_into roomy text t)
unfolding written_length written_into
nothing_written t text r = rw r (refl, refl)
