-- Laws of the definitions of specs/OutputsRead.antt.
use Rattle.std.specs.Prelude.{ℕ, ◌-◌, ◌<◌, List, ◌⊎◌, ◌≡◌, ℤ, pos, negsuc, ◌≤ℤ◌}
use Rattle.std.proofs.Common.{inl, inr, ⊎_elim, sym, ◌∙◌, ap, subst, arith}
use Rattle.std.specs.Int.Signed.{≤ℤ_refl, le_z_yes}
use Rattle.bounded.proofs.Boolean.{lt_or_le}
use Rattle.words.specs.WordOrders.{le_of, up_to}
use Rattle.request_table.specs.Limits.{grid}
use Rattle.request_table.specs.Table.{rows, word}
use Rattle.lifetime_rule.specs.Naming.{Output}
use Rattle.lifetime_rule.specs.SoundLifetimes.{Left, Lifetime}
use Rattle.lifetime_rule.proofs.SoundLifetimes.{left, output_within, output_last}
use Rattle.access_rule.specs.Accesses.{count}
use Rattle.access_rule.specs.Demand3.{Lent}
use Rattle.access_rule.proofs.Demand3.{demand3}
use Rattle.access_rule.specs.GoodScripts.{LivingByte, GoodAccess, GoodScript}
use Rattle.model_outputs.specs.OutputsRead.{FromLifetimes, GoodOrReads, LastAlive, OutputsRead, ReadsOutput}

-- ---- the table

module _ (operators tensors : ℕ) (u lifetimes t : List ℤ) (f : FromLifetimes operators tensors u lifetimes t) where
  abbrev leaves : Left operators tensors u lifetimes
  leaves = left operators tensors u lifetimes f.done

  lifetime : (r : ℕ) → r < tensors → Lifetime operators u r (leaves.first r) (leaves.last r)
  lifetime = leaves.lifetime

  first_is : (r : ℕ) → r < tensors → word t r 1 ≡ pos (leaves.first r)
  first_is r l = f.first_moments r l ∙ leaves.first_entry r l

  last_is : (r : ℕ) → r < tensors → word t r 2 ≡ pos (leaves.last r)
  last_is r l = f.last_moments r l ∙ leaves.last_entry r l

  -- A model output is alive at moment T − 1,
  pub output_alive : (r : ℕ) → Output u r → LastAlive operators t r
  output_alive r x =
      let l = output_within operators tensors u lifetimes f.done r x in
      let e : leaves.last r ≡ operators - 1 = omega (arith, output_last operators tensors u lifetimes f.done r x) in
      record {
        is_row = omega (arith, l, f.row_each);
        begun = subst (λ (z : ℤ). z ≤ℤ pos (operators - 1)) (sym (first_is r l)) (le_of _ _ (omega (arith, e, (lifetime r l).rising)));
        lasting = last_is r l ∙ ap pos e;
      }

  -- and no row lives past it.
  pub none_later : (r : ℕ) → r < rows t → word t r 2 ≤ℤ pos (operators - 1)
  none_later r l = ⊎_elim tensor (λ m. f.others r m l) (lt_or_le r tensors)
    where
      tensor : r < tensors → word t r 2 ≤ℤ pos (operators - 1)
      tensor m = subst (λ (z : ℤ). z ≤ℤ pos (operators - 1)) (sym (last_is r m)) (le_of _ _ (omega (arith, (lifetime r m).below)))

  -- A touch of a row alive at its moment is no later than the last moment,
  no_later : (s : List ℤ) (k : ℕ) → LivingByte t s k → word s k 0 ≤ℤ pos (operators - 1)
  no_later s k x = up_to (word s k 0) (word t x.row 2) (operators - 1) x.lasting (none_later x.row x.named)

  -- and a read of an output then is a touch of a row alive.
  read_living : (s : List ℤ) (k : ℕ) → ReadsOutput operators u t s k → LivingByte t s k
  read_living s k x =
      let a = output_alive x.tensor x.output in
      let lasts : word s k 0 ≤ℤ word t x.tensor 2 = subst (λ (z : ℤ). z ≤ℤ word t x.tensor 2) (sym (x.moment ∙ sym a.lasting)) (≤ℤ_refl (word t x.tensor 2)) in
      record {
        row = x.tensor;
        names = x.row;
        named = a.is_row;
        begun = subst (λ (z : ℤ). word t x.tensor 1 ≤ℤ z) (sym x.moment) a.begun;
        lasting = lasts;
        index_from = x.index_from;
        index_below = x.index_below;
        value_from = subst (λ (z : ℤ). negsuc 0 ≤ℤ z) (sym x.reads) (≤ℤ_refl (negsuc 0));
        value_to = subst (λ (z : ℤ). z ≤ℤ pos 255) (sym x.reads) (le_z_yes tt);
      }

  -- So the whole script is good.
  good_script : (s : List ℤ) → GoodOrReads operators u t s → GoodScript t s
  good_script s x = record { moments = λ i j l m. rising i j l m (x j m); living = λ k m. alive k (x k m) }
    where
      alive : (k : ℕ) → GoodAccess t s k ⊎ ReadsOutput operators u t s k → LivingByte t s k
      alive k (inl y) = y.living
      alive k (inr y) = read_living s k y

      rising : (i j : ℕ) → i < j → j < count s → GoodAccess t s j ⊎ ReadsOutput operators u t s j → word s i 0 ≤ℤ word s j 0
      rising i j l m (inl y) = y.moments i l
      rising i j l m (inr y) = subst (λ (z : ℤ). word s i 0 ≤ℤ z) (sym y.moment) (no_later s i (alive i (x i (omega arith))))

-- The law, from demand 3.
pub outputs_read : (g operators tensors : ℕ) (u lifetimes t : List ℤ) (space : ℕ) (o s : List ℤ) (arena bytes : List ℕ) → 0 < g
    → FromLifetimes operators tensors u lifetimes t → Lent g t space o s arena bytes → GoodOrReads operators u t s → OutputsRead g operators u t space o s arena bytes
outputs_read g operators tensors u lifetimes t space o s arena bytes h f l x =
    let d = demand3 g t space o s arena bytes h l in
    let done = d.done_exactly.1 (good_script operators tensors u lifetimes t f s x) in
    record { done = done; last_written = λ j k v b m r w same none. d.own_byte done j k v b m r.reads w same none }

-- And at the grid of the entry points, whose contracts are about the same definitions.
pub outputs_read_at_grid : (operators tensors : ℕ) (u lifetimes t : List ℤ) (space : ℕ) (o s : List ℤ) (arena bytes : List ℕ)
    → FromLifetimes operators tensors u lifetimes t → Lent grid t space o s arena bytes → GoodOrReads operators u t s → OutputsRead grid operators u t space o s arena bytes
outputs_read_at_grid operators tensors u lifetimes t space o s arena bytes = outputs_read grid operators tensors u lifetimes t space o s arena bytes (omega arith)
