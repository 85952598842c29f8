-- Laws of the definitions of specs/Answers.antt.
use Rattle.std.specs.Prelude.{ℕ, ◌<◌, ◌≤◌, true, false, List, ◌++◌, ◌≡◌, ℤ, length}
use Rattle.std.proofs.Math.Path.{refl, sym}
use Rattle.std.proofs.Common.{◌∙◌, arith, lt-ltb, le-ltb}
use Rattle.answer.specs.Answer.{number_of, done_with, refused_at, refused_pair, refused_need, need_exceeds_space, fixed_row_moved, bad_offset, rows_collide}
use Rattle.bounded.specs.Causes.{Gives, NoneHolds, AllRefuse, first_cause}
use Rattle.bounded.proofs.Causes.{given, follows, follows_more, passed, refused_stands}
use Rattle.bounded.specs.First.{first_in, holds_below}
use Rattle.bounded.specs.Pair.{pair_below, pair_first, pair_second}
use Rattle.request_table.specs.CheckLaws.{Checked}
use Rattle.request_table.proofs.CheckLaws.{none_refuses}
use Rattle.request_table.specs.Checks.{table_causes, check_of}
use Rattle.request_table.specs.Table.{rows}
use Rattle.inspection_rule.specs.Inspect.{moved, off_grid, proposed_need, proposed_collide, moved_causes, grid_causes, need_causes, pair_causes, offset_causes, plan_causes, own_causes, accepted_answer, pair_of, proposal_of, inspect_of}
use Rattle.inspection_rule.specs.Answers.{placed_of}

module _ (g : ℕ) (t : List ℤ) (space : ℕ) (o : List ℤ) where
  none_moved : rows t ≤ first_in (moved t o) 0 (rows t) → NoneHolds (moved_causes t o)
  unfolding holds_below
  none_moved l = (le-ltb _ _ l, tt)

  none_off_grid : rows t ≤ first_in (off_grid g o) 0 (rows t) → NoneHolds (grid_causes g t o)
  unfolding holds_below
  none_off_grid l = (le-ltb _ _ l, tt)

  -- ---- which cause is told first

  -- A refusal of the checks 1 to 5 is the inspector's.
  pub check_stands : ((check_of g t space (length o)).number ≡ 0 → ⊥) → check_of g t space (length o) ≡ inspect_of g t space o
  unfolding check_of inspect_of
  check_stands h = refused_stands number_of (table_causes g t space (length o)) (own_causes g t space o) (done_with 0) (accepted_answer g t o) refl h

  -- Past them, a fixed row that was moved is told whatever else holds,
  pub moved_refused : first_in (moved t o) 0 (rows t) < rows t → refused_at fixed_row_moved (first_in (moved t o) 0 (rows t)) ≡ proposal_of g t space o
  unfolding proposal_of holds_below
  moved_refused l =
      let told : Gives (own_causes g t space o) (accepted_answer g t o) (refused_at fixed_row_moved (first_in (moved t o) 0 (rows t))) = given (lt-ltb _ _ l) in
      told.is

  -- then an offset off the grid, whatever the need,
  pub grid_refused : rows t ≤ first_in (moved t o) 0 (rows t) → first_in (off_grid g o) 0 (rows t) < rows t
      → refused_at bad_offset (first_in (off_grid g o) 0 (rows t)) ≡ proposal_of g t space o
  unfolding proposal_of holds_below
  grid_refused m l = sym (follows_more (moved_causes t o) (grid_causes g t o ++ plan_causes g t space o) (accepted_answer g t o) (none_moved m) ∙ rw (lt-ltb _ _ l, first_cause))

  -- then a need that exceeds the space, whether rows collide or not.
  pub need_refused : space < proposed_need g t o → refused_need need_exceeds_space (proposed_need g t o) ≡ placed_of g t space o
  unfolding placed_of
  need_refused l =
      let told : Gives (plan_causes g t space o) (accepted_answer g t o) (refused_need need_exceeds_space (proposed_need g t o)) = given (lt-ltb _ _ l) in
      told.is

  -- ---- what decides where a cause does not hold

  -- Past the checks 1 to 5, the inspector's own.
  pub proposal_decides : Checked g t space (length o) → proposal_of g t space o ≡ inspect_of g t space o
  unfolding proposal_of inspect_of
  proposal_decides c = sym (follows_more (table_causes g t space (length o)) (own_causes g t space o) (accepted_answer g t o) (none_refuses t (length o) g space c))

  -- Past 8 and 9, the checks 7 and 10.
  pub placed_decides : rows t ≤ first_in (moved t o) 0 (rows t) → rows t ≤ first_in (off_grid g o) 0 (rows t) → placed_of g t space o ≡ proposal_of g t space o
  unfolding placed_of proposal_of
  placed_decides m l = sym (follows_more (offset_causes g t o) (plan_causes g t space o) (accepted_answer g t o) ((none_moved m).0, none_off_grid l))

  -- Past 7, the check 10.
  pub pair_decides : proposed_need g t o ≤ space → pair_of g t o ≡ placed_of g t space o
  unfolding pair_of placed_of
  pair_decides l = sym (follows_more (need_causes g t space o) (pair_causes g t o) (accepted_answer g t o) (le-ltb _ _ l, tt))

module _ (g : ℕ) (t : List ℤ) (o : List ℤ) where
  -- Two rows that collide are told, the least pair of them.
  pub pair_refused : pair_below (proposed_collide g t o) (rows t) ≡ true
      → refused_pair rows_collide (pair_first (proposed_collide g t o) (rows t)) (pair_second (proposed_collide g t o) (rows t)) ≡ pair_of g t o
  unfolding pair_of
  pair_refused e = rw (e, first_cause)

  -- Where none do, the plan is accepted.
  pub accepted : pair_below (proposed_collide g t o) (rows t) ≡ false → done_with (proposed_need g t o) ≡ pair_of g t o
  unfolding pair_of
  accepted e = sym (follows (pair_causes g t o) (accepted_answer g t o) (e, tt))

  pair_refuses : AllRefuse number_of (pair_causes g t o)
  pair_refuses = (omega arith, tt)

  -- The answer 0 of the check 10 is that acceptance.
  pub passed_is_accepted : (pair_of g t o).number ≡ 0 → done_with (proposed_need g t o) ≡ pair_of g t o
  unfolding pair_of
  passed_is_accepted e = accepted (passed number_of (pair_causes g t o) (accepted_answer g t o) pair_refuses e).0.0
