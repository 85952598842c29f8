-- `tensor_lifetimes::store` meets its contract: the entries so far are replaced.
use Prim.Native.Nat.{ℕ, ◌-◌, ◌*◌, ◌+◌, ◌<◌}
use mathlib.Core.List.{List}
use mathlib.Core.Path.{◌≡◌, sym, ◌∙◌, ap}
use native.Mathlib.Omega.{arith}
use lib.IntN.{ℤ, pos}
use lib.ListN.{set}
use mir.Facts.{to_z_pos}
use mir.Val.{to_z}
use mir.Syntax.{w32}
use Rattle.bounded.specs.Replaced.{replaced}
use Rattle.bounded.proofs.Replaced.{replaced_none}
use Rattle.bounded.proofs.TwoEach.{two_more}
use Rattle.known_lifetimes.specs.declared.Lifetime.{Lifetime}
use Rattle.tensor_lifetimes.specs.Gathered.{lifetime_in, no_lifetime, stored_word}
use Rattle.std.proofs.Common.{get_or-take}
use Rattle.words.proofs.Signed.{read}
use Rattle.std.proofs.lemmas.Grind.{common_steps}
use Rattle.tensor_lifetimes.proofs.store.Goals as goal

-- with the two words of one tensor more
stored_more : (gathered : List Lifetime) (t : ℕ) (lent : List ℤ) {xs : List ℤ} {first last : ℤ} → xs ≡ replaced (stored_word gathered) (t * 2) lent → first ≡ pos (lifetime_in gathered t).first.0
    → last ≡ pos ((lifetime_in gathered t).end.0 - 1) → set (set xs (t * 2) first) (t * 2 + 1) last ≡ replaced (stored_word gathered) ((t + 1) * 2) lent
stored_more gathered t lent e p q = (λ i. set (set (e i) (t * 2) (p i)) (t * 2 + 1) (q i)) ∙ two_more _ _ t lent

pub loop-tensor-init : goal.loop-tensor-init
loop-tensor-init c = (sym (replaced_none _ _), omega arith)

pub loop-tensor-preserved : goal.loop-tensor-preserved
loop-tensor-preserved c =
    let gathered = c.args.gathered.now in
    let t = c.loop-tensor.tensor in
    let l : t < c.args.tensors = grind (arith, common_steps) in
    let same = get_or-take c.args.tensors gathered t (no_lifetime 0) l in
    let small = to_z_pos w32 {n = (lifetime_in gathered t).first.0} (omega (arith, c.requires.storable_lifetimes.first_small t l)) in
    let first = read _ c.cast_signed.type_inv ∙ c.cast_signed.ensures ∙ ap (λ (x : Lifetime). to_z w32 x.first.0) same ∙ small in
    let little = to_z_pos w32 {n = (lifetime_in gathered t).end.0 - 1} (omega (arith, c.requires.storable_lifetimes.end_small t l)) in
    let last = read _ c.cast_signed-in-loop-tensor.type_inv ∙ c.cast_signed-in-loop-tensor.ensures ∙ ap (λ (x : Lifetime). to_z w32 (x.end.0 - 1)) same ∙ little in
    (stored_more gathered t _ c.loop-tensor.invariant.0 first last, omega (arith, l))
