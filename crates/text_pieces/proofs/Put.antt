-- Laws of the definitions of specs/Put.antt.
use Rattle.std.specs.Prelude.{ℕ, suc, ◌+◌, ◌-◌, ◌≤◌, ◌<◌, true, false, List, [], ◌∷◌, ◌++◌, ◌≡◌, refl, leb, get_or, set, take, drop}
use Rattle.std.proofs.Common.{sym, ap, ◌∙◌, add-zero, zero-add, add-one, arith, length-append, take-suc, drop-drop, append_assoc}
use borrow.Author.Tests.{leb-true, le-leb, lt-leb}
use Rattle.std.proofs.Math.ListN.{length}
use Rattle.std.proofs.lemmas.List.Edits.{sets, sets-eq}
use Rattle.std.proofs.Math.Seq.{length-sets, take-length}
use Rattle.bounded.proofs.Boolean.{same_test}
use borrow.Rule.Slice.PartMut.{put_mid}
use Rattle.text_pieces.specs.Pieces.{lines_below}
use Rattle.text_pieces.proofs.Pieces.{no_lines}
use Rattle.text_pieces.specs.Put.{Chain, Put, Room, bytes_with, end_with, first, has_room, more}

sets_append : (p q t : List ℕ) (at : ℕ) → sets t at (p ++ q) ≡ sets (sets t at p) (at + length p) q
sets_append [] q t at = rw add-zero
sets_append (b ∷ p) q t at =
    let e : suc at + length p ≡ at + suc (length p) = omega arith in
    sets_append p q (set t at b) (suc at) ∙ rw e

-- Putting a piece changes no length.
pub put_length : {t u p : List ℕ} {at e : ℕ} → Put t u at e p → length u ≡ length t
put_length {t} {u} {p} {at} {e} x = ap length x.bytes ∙ length-sets t at p

-- Nothing put.
pub put_none : (t : List ℕ) (at : ℕ) → at ≤ length t → Put t t at at []
put_none t at l = record { ends = sym (add-zero at); inside = l; bytes = refl }

-- No line put.
pub put_no_line : (t : List ℕ) (at : ℕ) (line_of : ℕ → List ℕ) → at ≤ length t → Put t t at at (lines_below line_of 0)
put_no_line t at line_of l = rw (no_lines line_of) (put_none t at l)

-- Two pieces, the second where the first ended.
pub put_both : {t u v p q : List ℕ} {at m e : ℕ} → Put t u at m p → Put u v m e q → Put t v at e (p ++ q)
put_both {t} {u} {v} {p} {q} {at} {m} {e} x y =
    record {
      ends = omega (arith, x.ends, y.ends, length-append p q);
      inside = omega (arith, y.inside, put_length x);
      bytes = y.bytes ∙ ap (λ (s : List ℕ). sets s m q) x.bytes ∙ ap (λ (k : ℕ). sets (sets t at p) k q) x.ends ∙ sym (sets_append p q t at);
    }

-- One byte more of a piece.
pub put_more : {t u : List ℕ} (p : List ℕ) (at k : ℕ) → k < length p → at + k < length t → Put t u at (at + k) (take k p)
    → Put t (set u (at + k) (get_or p k 0)) at (at + (k + 1)) (take (k + 1) p)
put_more p at k l m x =
    rw (add-one k, take-suc p k 0 l)
    (put_both x record { ends = omega arith; inside = omega (arith, put_length x); bytes = refl })

-- Every byte of a piece.
pub put_all : {t u : List ℕ} {at e : ℕ} (p : List ℕ) (k : ℕ) → k ≡ length p → Put t u at e (take k p) → Put t u at e p
put_all p k q x = rw (q, take-length) at x

-- Room for two pieces is room for the first,
pub room_first : {t : List ℕ} {at : ℕ} (p q : List ℕ) → Room t at (p ++ q) → Room t at p
room_first p q r = record { holds = omega (arith, r.holds, length-append p q) }

-- and for the second once the first is put.
pub room_next : {t u p : List ℕ} {at m : ℕ} (q : List ℕ) → Put t u at m p → Room t at (p ++ q) → Room u m q
room_next {t} {u} {p} {at} {m} q x r = record { holds = omega (arith, r.holds, x.ends, put_length x, length-append p q) }

-- A piece put at the start: its length is where it ends, and the bytes after it are as they were.
pub put_at_start : {t u p : List ℕ} {e : ℕ} → Put t u 0 e p → (e ≡ length p) × (u ≡ p ++ drop (length p) t)
put_at_start {t} {u} {p} {e} x =
    let l : 0 + length p ≤ length t = omega (arith, x.ends, x.inside) in
    (omega (arith, x.ends), x.bytes ∙ sets-eq p t 0 l ∙ rw zero-add)

-- ---- whole, or not at all

module _ {t p : List ℕ} {at : ℕ} where
  -- Where there is room, the piece is put.
  pub put_whole : {u : List ℕ} {e : ℕ} → Room t at p → (e ≡ end_with t at p) × (u ≡ bytes_with t at p) → Put t u at e p
  unfolding end_with bytes_with has_room
  put_whole {u} {e} r x =
      let yes = le-leb (at + length p) (length t) r.holds in
      let ends : e ≡ at + length p = x.0 ∙ rw (end_with, yes) in
      record { ends = ends; inside = omega (arith, r.holds); bytes = x.1 ∙ rw (bytes_with, yes) }

  -- What was put whole is what the two definitions give,
  pub whole_put : {u : List ℕ} {e : ℕ} → Put t u at e p → (e ≡ end_with t at p) × (u ≡ bytes_with t at p)
  unfolding end_with bytes_with has_room
  whole_put x =
      let yes = le-leb (at + length p) (length t) (omega (arith, x.ends, x.inside)) in
      (x.ends ∙ rw (end_with, yes), x.bytes ∙ rw (bytes_with, yes))

-- and so is nothing where there is no room.
pub nothing_put : (t p : List ℕ) (at : ℕ) → has_room (length t) at (length p) ≡ false → (at ≡ end_with t at p) × (t ≡ bytes_with t at p)
unfolding end_with bytes_with
nothing_put t p at n = (rw (n, end_with), rw (n, bytes_with))

-- Where there is room for all of them, all are put.
pub chain_put : {t : List ℕ} {at : ℕ} {p u : List ℕ} {e : ℕ} → Chain t at p u e → Room t at p → Put t u at e p
chain_put (first p s) r = put_whole r s
chain_put (more q {p} c s) r = let x = chain_put c (room_first p q r) in put_both x (put_whole (room_next q x r) s)

-- The test says that there is room.
pub room_says : (t p : List ℕ) (at : ℕ) → has_room (length t) at (length p) ≡ true → Room t at p
unfolding has_room
room_says t p at e = record { holds = leb-true (at + length p) (length t) e }

-- It can be made without a sum, where the piece is no longer than the bytes.
pub room_by_rest : (bytes at long : ℕ) → long ≤ bytes → leb at (bytes - long) ≡ has_room bytes at long
unfolding has_room
room_by_rest bytes at long l =
    same_test _ _
    (λ e. le-leb (at + long) bytes (omega (arith, leb-true at (bytes - long) e)))
    (λ e. le-leb at (bytes - long) (omega (arith, leb-true (at + long) bytes e)))

-- A longer piece never has room.
pub no_room : (bytes at long : ℕ) → bytes < long → false ≡ has_room bytes at long
unfolding has_room
no_room bytes at long l = sym (lt-leb (at + long) bytes (omega arith))

-- What the code writes over the bytes at a place is what was put there.
pub put_over : (t p u : List ℕ) (at k : ℕ) → u ≡ p → k ≡ length p → at + length p ≤ length t → put_mid at k t u ≡ sets t at p
put_over t p u at k e q l = rw (e, q, sets-eq p t at l, drop-drop (length p) at t) (sym (append_assoc (take at t) p (drop (at + length p) t)))
