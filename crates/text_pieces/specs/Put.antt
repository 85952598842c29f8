-- Pieces of a text put one after another into lent bytes, each where the one before it ended, whole or not at all. A function that puts pieces is proved
-- by the laws below alone: the room for all is cut into that for each, and what was put is joined from them.
use Rattle.std.specs.Prelude.{ℕ, ◌+◌, ◌≤◌, Bool, true, false, List, ◌++◌, ◌≡◌, leb}
use Rattle.std.proofs.Math.ListN.{length}
use Rattle.std.proofs.lemmas.List.Edits.{sets}

-- Whether so many bytes have room for a piece of a length at a place.
unfoldable pub has_room : ℕ → ℕ → ℕ → Bool
has_room bytes at long = leb (at + long) bytes

-- Where the next piece starts: where this one ends, or where it was to start if there is no room for it.
unfoldable pub end_with : List ℕ → ℕ → List ℕ → ℕ
end_with bytes at piece = elim (has_room (length bytes) at (length piece)) [ true ↦ at + length piece | false ↦ at ]

-- The bytes with the piece at the place; as they were if there is no room for it.
unfoldable pub bytes_with : List ℕ → ℕ → List ℕ → List ℕ
bytes_with bytes at piece = elim (has_room (length bytes) at (length piece)) [ true ↦ sets bytes at piece | false ↦ bytes ]

-- ---- pieces for which there is room

-- There is room for a piece at a place.
pub record Room (bytes : List ℕ) (at : ℕ) (piece : List ℕ) : Type 0 where
  pub holds : at + length piece ≤ length bytes

-- A piece was put at a place, and ends here, within the bytes.
pub record Put (before after : List ℕ) (at end : ℕ) (piece : List ℕ) : Type 0 where
  pub ends : end ≡ at + length piece
  pub inside : end ≤ length before
  pub bytes : after ≡ sets before at piece

-- Pieces put one after the other, each where the one before it ended.
pub data Chain (t : List ℕ) (at : ℕ) : List ℕ → List ℕ → ℕ → Type 0 where
  first : (p : List ℕ) {u : List ℕ} {e : ℕ} → (e ≡ end_with t at p) × (u ≡ bytes_with t at p) → Chain t at p u e
  more : (q : List ℕ) {p u v : List ℕ} {m e : ℕ} → Chain t at p u m → (e ≡ end_with u m q) × (v ≡ bytes_with u m q) → Chain t at (p ++ q) v e
