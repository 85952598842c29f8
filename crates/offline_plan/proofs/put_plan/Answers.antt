-- `offline_plan::put_plan` meets its contract: the head is put, and the offsets behind it.
use Prim.Native.Nat.{ℕ, ◌-◌}
use mathlib.Core.List.{List}
use mathlib.Core.Path.{◌≡◌, sym, ◌∙◌, ap}
use native.Mathlib.Omega.{arith}
use borrow.Rule.Slice.PartMut.{put_mid}
use lib.ListN.{length}
use mir.Facts.{to_z_pos}
use mir.Syntax.{w32}
use Rattle.offline_rule.specs.OfflinePlan.{plan_head}
use Rattle.word_lists.specs.WordLists.{with_words}
use Rattle.word_lists.proofs.WordsComeBack.{put_both, put_of_part}
use Rattle.offline_plan.proofs.put_plan.Goals as goal

pub returns : goal.returns
returns c =
    let a = c.args in
    let headed = c.write_words.new.bytes in
    let head : headed ≡ with_words a.bytes.now 0 (plan_head (length a.offsets.now)) =
    c.write_words.ensures ∙ rw (to_z_pos w32 {n = length a.offsets.now} (omega (arith, c.requires.few))) in
    ap (put_mid 12 (length headed - 12) headed) c.write_words-2.ensures
    ∙ put_of_part headed 12 a.offsets.now
    ∙ ap (λ (xs : List ℕ). with_words xs 12 a.offsets.now) head
    ∙ sym (put_both a.bytes.now 0 (plan_head (length a.offsets.now)) a.offsets.now)
