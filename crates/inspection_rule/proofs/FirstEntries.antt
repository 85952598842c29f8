-- Law: the inspector "reads the first n proposed offsets" and no other: two proposals that are long enough and agree on the table's rows get one answer.
use Rattle.std.specs.Prelude.{ℕ, ◌<◌, ◌≤◌, ◌&&◌, ◌||◌, ◌≡◌, eqb, ℤ, pos, length}
use Rattle.std.proofs.Math.Bool.{not}
use mathlib.Core.List.{List, ◌++◌}
use Rattle.std.proofs.Math.Path.{ap, ap₂}
use Rattle.std.proofs.Common.{arith, le-ltb}
use Rattle.std.specs.Int.Signed.{lt_z}
use Rattle.answer.specs.Answer.{done_with}
use Rattle.answer.specs.declared.Answer.{Answer}
use Rattle.bounded.specs.Causes.{Cause, first_cause}
use Rattle.bounded.proofs.First.{first_same, holds_same}
use Rattle.bounded.proofs.Pair.{pair_same}
use Rattle.words.specs.Words.{word_at, natural}
use Rattle.request_table.specs.Buffers.{buffer_at, collides}
use Rattle.request_table.specs.Checks.{table_causes}
use Rattle.request_table.proofs.Needs.{need_same}
use Rattle.request_table.specs.Table.{rows, fixed, fixed_offset, on_grid}
use Rattle.inspection_rule.specs.Inspect.{proposed, moved, off_grid, proposed_need, proposed_collide, own_causes, inspect_of}

module _ (g : ℕ) (t : List ℤ) (space : ℕ) (o other : List ℤ) (same : (r : ℕ) → r < rows t → word_at o r ≡ word_at other r) where
  same_offset : (r : ℕ) → r < rows t → proposed o r ≡ proposed other r
  same_offset r l = ap natural (same r l)

  same_moved : (r : ℕ) → r < rows t → moved t o r ≡ moved t other r
  unfolding moved
  same_moved r l = ap (λ (x : ℕ). fixed t r && not (eqb x (fixed_offset t r))) (same_offset r l)

  same_grid : (r : ℕ) → r < rows t → off_grid g o r ≡ off_grid g other r
  unfolding off_grid
  same_grid r l = ap (λ (z : ℤ). lt_z z (pos 0) || not (on_grid g (natural z))) (same r l)

  same_need : proposed_need g t o ≡ proposed_need g t other
  unfolding proposed_need
  same_need = need_same g t (proposed o) (proposed other) same_offset

  same_collide : (a b : ℕ) → a < b → b < rows t → proposed_collide g t o a b ≡ proposed_collide g t other a b
  same_collide a b l m = ap₂ (λ (x y : ℕ). collides (buffer_at g t a x) (buffer_at g t b y)) (same_offset a (omega arith)) (same_offset b m)

  same_causes : own_causes g t space o ≡ own_causes g t space other
  same_causes =
      let p = pair_same (proposed_collide g t o) (proposed_collide g t other) (rows t) same_collide in
      rw (
        holds_same (moved t o) (moved t other) (rows t) same_moved,
        first_same (moved t o) (moved t other) 0 (rows t) (λ r z. same_moved r),
        holds_same (off_grid g o) (off_grid g other) (rows t) same_grid,
        first_same (off_grid g o) (off_grid g other) 0 (rows t) (λ r z. same_grid r),
        same_need,
        p.0,
        p.1,
        p.2,
      )

  same_checks : rows t ≤ length o → rows t ≤ length other → table_causes g t space (length o) ≡ table_causes g t space (length other)
  same_checks l m = rw (le-ltb (length o) (rows t) l, le-ltb (length other) (rows t) m)

  -- Entries past the rows do not change the answer.
  pub first_entries_decide : rows t ≤ length o → rows t ≤ length other → inspect_of g t space o ≡ inspect_of g t space other
  unfolding inspect_of
  first_entries_decide l m =
      ap₂ (λ (causes : List (Cause Answer)) (after : Answer). first_cause causes after) (ap₂ (λ (x y : List (Cause Answer)). x ++ y) (same_checks l m) same_causes) (ap done_with same_need)
