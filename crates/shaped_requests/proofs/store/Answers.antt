-- `shaped_requests::store` meets its contract: of the entries in front, those so far are replaced.
use Prim.Native.Nat.{ℕ, zero, suc, ◌*◌, ◌<◌, ◌≤◌}
use Rattle.std.specs.Prelude.{List, ◌++◌, ◌≡◌, ℤ, length, take, drop, set}
use Rattle.std.proofs.Common.{arith, sym, ◌∙◌, ap, length-take, take-append-drop}
use Rattle.std.proofs.lemmas.List.{set-append_left}
use Rattle.bounded.specs.Replaced.{replaced}
use Rattle.bounded.proofs.Replaced.{replaced_none, replaced_more, replaced_length}
use Rattle.shape_rule.specs.ShapeTable.{shape_count}
use Rattle.shape_rule.specs.Sized.{request_entry}
use Rattle.std.proofs.Math.Path.{ap₂}
use Rattle.words.proofs.Signed.{read}
use Rattle.shaped_requests.proofs.store.Goals as goal

-- the entries in front replaced, with the rest behind them, are the whole list's
in_front : {A : Type 0} (f : ℕ → A) (n : ℕ) (xs : List A) (i : ℕ) → i ≤ n → n ≤ length xs → replaced f i (take n xs) ++ drop n xs ≡ replaced f i xs
unfolding replaced
in_front f n xs zero l m = take-append-drop n xs
in_front f n xs (suc i) l m =
    sym (set-append_left (replaced f i (take n xs)) (drop n xs) i (f i) (omega (arith, replaced_length f i (take n xs), length-take n xs)))
    ∙ ap (λ (ys : List _). set ys i (f i)) (in_front f n xs i (omega arith) m)

pub loop-entry-init : goal.loop-entry-init
loop-entry-init c = (sym (replaced_none _ _), omega arith)

pub loop-entry-preserved : goal.loop-entry-preserved
loop-entry-preserved c =
    let at = c in
    let word = read c.request_entry.result c.request_entry.type_inv ∙ c.request_entry.ensures in
    let l : at.loop-entry.entry < shape_count at.args.shapes.now * 4 = omega (arith, c.loop-entry-test.true, length-take (shape_count at.args.shapes.now * 4) at.args.requests.now) in
    (ap₂ (λ (xs : List ℤ) (x : ℤ). set xs at.loop-entry.entry x) at.loop-entry.invariant.0 word ∙ replaced_more _ _ _, omega (arith, l))

pub returns : goal.returns
returns c =
    let t = c.args.shapes.now in
    let xs = c.args.requests.now in
    let roomy : shape_count t * 4 ≤ length xs = c.requires.1 in
    let all : c.loop-entry.entry ≡ shape_count t * 4 =
    omega (arith, c.loop-entry-test.false, c.loop-entry.invariant.1, roomy, length-take (shape_count t * 4) xs) in
    ap (λ (ys : List ℤ). ys ++ drop (shape_count t * 4) xs) c.loop-entry.invariant.0
    ∙ ap (λ (i : ℕ). replaced (request_entry t) i (take (shape_count t * 4) xs) ++ drop (shape_count t * 4) xs) all
    ∙ in_front (request_entry t) (shape_count t * 4) xs (shape_count t * 4) (omega arith) roomy
