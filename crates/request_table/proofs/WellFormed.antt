-- Laws of the definitions of specs/WellFormed.antt.
use Rattle.std.specs.Prelude.{ℕ, ◌≤◌, List, ℤ}
use Rattle.request_table.specs.CheckLaws.{Checked}
use Rattle.request_table.proofs.GoodRows.{good_says, good_of}
use Rattle.request_table.specs.Limits.{greatest_space}
use Rattle.request_table.specs.Table.{rows}
use Rattle.request_table.specs.WellFormed.{WellFormed}

module _ (g : ℕ) (t : List ℤ) (space room : ℕ) where
  -- A well-formed table, an allowed space and room pass the checks 1 to 5,
  pub passes : WellFormed g t → space ≤ greatest_space → rows t ≤ room → Checked g t space room
  passes w a r = record {
    shaped = record { whole = w.whole; few = w.few; roomy = r };
    allowed = a;
    good_rows = λ i l. good_of g t i (w.each i l);
  }

  -- and nothing else does.
  pub passed_is_well_formed : Checked g t space room → WellFormed g t
  passed_is_well_formed c = record { whole = c.shaped.whole; few = c.shaped.few; each = λ i l. good_says g t i (c.good_rows i l) }
