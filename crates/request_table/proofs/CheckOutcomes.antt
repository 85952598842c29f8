-- Law: what the checks 1 to 5 answer, and when, in document 01's words: 1, 2 and 3 for the lengths, 4 for the space, 5 with the lowest bad row; each
-- only where none before it holds.
use Rattle.std.specs.Prelude.{ℕ, ◌<◌, ◌≤◌, ◌%◌, Bool, not, List, ◌⊎◌, ◌≡◌, ℤ, length}
use Rattle.std.proofs.Math.Bool.{true, false}
use Rattle.std.proofs.Common.{inl, inr, sym, ◌∙◌, ap}
use Rattle.std.proofs.Math.Path.{refl}
use borrow.Author.Tests.{lt-ltb, le-ltb, ne_eqb, eq-eqb, not-false}
use Rattle.answer.specs.Answer.{refused, refused_at, done_with, not_whole_rows, too_many, table_too_short, space_too_large, bad_row as bad_row_number}
use Rattle.bounded.proofs.Boolean.{contrary, lt_or_le, refuted, same_or_not}
use Rattle.bounded.specs.Causes.{first_cause}
use Rattle.bounded.specs.First.{holds_below}
use Rattle.bounded.proofs.First.{none_holds}
use Rattle.bounded.specs.Lowest.{Lowest}
use Rattle.bounded.proofs.Lowest.{lowest_of}
use Rattle.request_table.specs.CheckLaws.{Shaped, Checked}
use Rattle.request_table.proofs.CheckLaws.{content_decides}
use Rattle.request_table.specs.Checks.{content_of, check_of}
use Rattle.request_table.specs.GoodRows.{GoodRow}
use Rattle.request_table.proofs.GoodRows.{good_says, good_of}
use Rattle.request_table.specs.Limits.{greatest_rows, greatest_space}
use Rattle.request_table.specs.Table.{rows, bad_row}

module _ (g : ℕ) (t : List ℤ) (space room : ℕ) where
  -- What the answer may be.
  pub data CheckOutcome : Type 0 where
    not_whole : (length t % 4 ≡ 0 → ⊥) → check_of g t space room ≡ refused not_whole_rows → CheckOutcome
    too_many_case : length t % 4 ≡ 0 → greatest_rows < rows t → check_of g t space room ≡ refused too_many → CheckOutcome
    too_short : length t % 4 ≡ 0 → rows t ≤ greatest_rows → room < rows t → check_of g t space room ≡ refused table_too_short → CheckOutcome
    too_large : Shaped t room → greatest_space < space → check_of g t space room ≡ refused space_too_large → CheckOutcome
    bad_row_case : (a : ℕ) → Shaped t room → space ≤ greatest_space → Lowest (λ r. GoodRow g t r → ⊥) (rows t) a
        → check_of g t space room ≡ refused_at bad_row_number a → CheckOutcome
    passes : Checked g t space room → check_of g t space room ≡ done_with 0 → CheckOutcome

  bad_says : (r : ℕ) → bad_row g t r ≡ true → GoodRow g t r → ⊥
  bad_says r e x = contrary e (ap not (good_of g t r x))

  bad_of : (r : ℕ) → (GoodRow g t r → ⊥) → bad_row g t r ≡ true
  bad_of r f = refuted _ (λ e. f (good_says g t r (not-false _ e)))

  -- Past the lengths.
  content_outcome : Shaped t room → (greatest_space < space) ⊎ (space ≤ greatest_space) → (b : Bool) → holds_below (bad_row g t) (rows t) ≡ b → CheckOutcome
  unfolding content_of
  content_outcome s (inl l) b e = too_large s l (sym (content_decides t room g space s) ∙ rw (lt-ltb _ _ l, first_cause))
  content_outcome s (inr l) true e =
      bad_row_case _ s l (lowest_of (bad_row g t) (rows t) (λ r m. bad_says r) (λ r m. bad_of r) e)
      (sym (content_decides t room g space s) ∙ rw (le-ltb _ _ l, first_cause, e, first_cause))
  content_outcome s (inr l) false e =
      let c : Checked g t space room = record { shaped = s; allowed = l; good_rows = λ r m. not-false _ (none_holds (bad_row g t) (rows t) e r m) } in
      passes c (sym (content_decides t room g space s) ∙ rw (le-ltb _ _ l, first_cause, e, first_cause))

  -- The checks 1 to 5 answer so.
  pub check_outcome : CheckOutcome
  unfolding check_of
  check_outcome = go (same_or_not (length t % 4) 0) (lt_or_le greatest_rows (rows t)) (lt_or_le room (rows t))
    where
      go : (length t % 4 ≡ 0) ⊎ (length t % 4 ≡ 0 → ⊥) → (greatest_rows < rows t) ⊎ (rows t ≤ greatest_rows) → (room < rows t) ⊎ (rows t ≤ room) → CheckOutcome
      go (inr f) y z = not_whole f (rw (ne_eqb (length t % 4) 0 f, first_cause))
      go (inl e) (inl l) z = too_many_case e l (rw (eq-eqb (length t % 4) 0 e, first_cause, lt-ltb _ _ l, first_cause))
      go (inl e) (inr l) (inl m) = too_short e l m (rw (eq-eqb (length t % 4) 0 e, first_cause, le-ltb _ _ l, first_cause, lt-ltb _ _ m, first_cause))
      go (inl e) (inr l) (inr m) =
          content_outcome (record { whole = e; few = l; roomy = m }) (lt_or_le greatest_space space) (holds_below (bad_row g t) (rows t)) refl
