-- What the code works out of a row is what the definitions say, over plain values: a wrong test or field then fails here by what differs.
use Prim.Native.Nat.{ℕ}
use mathlib.Core.Bool.{Bool, not, ◌&&◌}
use mathlib.Core.List.{List}
use mathlib.Core.Path.{◌≡◌, sym, ◌∙◌, ap}
use lib.IntN.{ℤ}
use Rattle.words.specs.Words.{natural}
use Rattle.request_table.specs.Table.{word, request, fixed_at, passes, good_size, good_lifetime, good, bad_row}
use Rattle.units.specs.declared.Offset.{Offset}
use Rattle.std.specs.Prelude.{Option}
use Rattle.request_table.specs.declared.Request.{Request}

-- A row, from its words.
pub row_is : (t : List ℤ) (r : ℕ) {size first last : ℕ} {offset : Option Offset}
    → size ≡ natural (word t r 0) → first ≡ natural (word t r 1) → last ≡ natural (word t r 2) → offset ≡ fixed_at (word t r 3)
    → ◌≡◌ {A = Request} (record { size = size; first = record { 0 = first }; last = record { 0 = last }; offset = offset }) (request t r)
unfolding request
row_is t r s f l o = λ i. record { size = s i; first = record { 0 = f i }; last = record { 0 = l i }; offset = o i }

-- The test of a good row.
pub good_is : (g : ℕ) (x : Request) {offset : Bool} → offset ≡ passes g x.offset → good_size x && (good_lifetime x && offset) ≡ good g x
unfolding good
good_is g x e = ap (λ (b : Bool). good_size x && (good_lifetime x && b)) e

-- The test of a bad row, on the row that was read.
pub bad_is : (g : ℕ) (t : List ℤ) (r : ℕ) {x : Request} {passes : Bool} → x ≡ request t r → passes ≡ good g x → bad_row g t r ≡ not passes
bad_is g t r p q = ap (λ (y : Request). not (good g y)) (sym p) ∙ ap not (sym q)
