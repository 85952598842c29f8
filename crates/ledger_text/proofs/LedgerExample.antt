-- Document 02's own text, computed by the definitions: "after document 01's keep of 10 as kind 0: `0 10 11 1`, then `1 0 0 0` to `5 0 0 0`". The arena
-- starts at 1003 with 2,048 bytes, and the keep is at alignment 8.
use mathlib.Core.List.{[], ◌∷◌, ◌++◌, sum}
use Rattle.std.specs.Prelude.{◌≡◌, refl}
use Rattle.alignment.specs.Alignments.{loss, allowed}
use Rattle.alignment.specs.Powers.{is_power_of_two}
use Rattle.alignment.specs.Rounding.{rounded_down}
use Rattle.answer.specs.Answer.{done_at}
use Rattle.arena_sections.specs.History.{opened}
use Rattle.arena_sections.specs.Sections.{base_alignment, valid, not_usable, open_of, persistent_full}
use Rattle.bounded.specs.First.{holds_below, first_in, first_from}
use Rattle.decimal_text.specs.Decimal.{decimal, places}
use Rattle.ledger_text.specs.LedgerText.{record_line, ledger_text}
use Rattle.recording_rule.specs.Ledger.{empty_ledger, total_used, balanced}
use Rattle.recording_rule.specs.Recording.{recorded_of, ledger_after, recording_of}
use Rattle.recording_rule.specs.declared.Recording.{Recording}
use Rattle.text_pieces.specs.Pieces.{spaced, lines_below}

-- Document 01's keep, as kind 0.
abbrev first_keep : Recording
first_keep = recording_of base_alignment (opened base_alignment 1003 2048) empty_ledger 0 10 8

-- It is done, and starts at 2,032.
pub first_keep_done : first_keep.answer ≡ done_at 2032
unfolding recorded_of open_of not_usable loss valid balanced total_used sum holds_below first_in first_from allowed is_power_of_two persistent_full rounded_down
first_keep_done = refl

-- The six lines.
pub first_keep_text : ledger_text first_keep.ledger
    ≡ (48 ∷ 32 ∷ 49 ∷ 48 ∷ 32 ∷ 49 ∷ 49 ∷ 32 ∷ 49 ∷ 10 ∷ [])
    ++ (49 ∷ 32 ∷ 48 ∷ 32 ∷ 48 ∷ 32 ∷ 48 ∷ 10 ∷ [])
    ++ (50 ∷ 32 ∷ 48 ∷ 32 ∷ 48 ∷ 32 ∷ 48 ∷ 10 ∷ [])
    ++ (51 ∷ 32 ∷ 48 ∷ 32 ∷ 48 ∷ 32 ∷ 48 ∷ 10 ∷ [])
    ++ (52 ∷ 32 ∷ 48 ∷ 32 ∷ 48 ∷ 32 ∷ 48 ∷ 10 ∷ [])
    ++ (53 ∷ 32 ∷ 48 ∷ 32 ∷ 48 ∷ 32 ∷ 48 ∷ 10 ∷ [])
unfolding ledger_after recorded_of open_of not_usable loss valid balanced total_used sum holds_below first_in first_from allowed is_power_of_two persistent_full rounded_down lines_below record_line spaced decimal places
first_keep_text = refl
