-- `sheet_bytes::read` meets its contract: past the test the rows' words fit the table, and the version tells what they are.
use Prim.Native.Nat.{ℕ, ◌*◌}
use mathlib.Core.Bool.{true}
use Rattle.std.specs.Prelude.{Some}
use lib.IntN.{ℤ}
use mathlib.Core.List.{List, ◌++◌}
use mathlib.Core.Path.{◌≡◌, sym, ◌∙◌, ap, ap₂}
use native.Mathlib.Omega.{arith}
use lib.ListN.{drop}
use Rattle.word_lists.specs.WordLists.{words_from}
use Rattle.sheet_rule.proofs.GoodSheets.{words_within}
use Rattle.sheet_rule.proofs.ReadSheets.{requests_read, shapes_read, bad_read, good_rows, bad_rows}
use Rattle.sheet_rule.specs.Sheet.{version, row_count, row_words, word_count, well_formed, words_read}
use Rattle.sheet_rule.specs.declared.Sheet.TheVariants.{Requests, Shapes}
use Rattle.sheet_bytes.proofs.read.Goals as goal

module _ (sheet : List ℕ) {rows words number : ℕ} (r : rows ≡ row_count sheet) (v : number ≡ version sheet) (w : words ≡ row_words number) where
  -- as many words are read as its rows have
  counted : rows * words ≡ word_count sheet
  counted = ap₂ (λ (m n : ℕ). m * n) r (w ∙ ap row_words v)

  -- and stand in front of the table
  stored : (table : List ℤ) {new : List ℤ} → well_formed sheet ≡ true → new ≡ words_from sheet 11 (rows * words) ++ drop (rows * words) table → new ≡ words_read sheet table
  stored table e n = n ∙ ap (λ (n : ℕ). words_from sheet 11 n ++ drop n table) counted ∙ sym (good_rows sheet table e)

pub returns-then-not-is_well_formed-clause-sheet : goal.returns-then-not-is_well_formed-clause-sheet
returns-then-not-is_well_formed-clause-sheet c = bad_read _ (sym c.is_well_formed.ensures ∙ c.if-not-is_well_formed.true)

pub returns-then-not-is_well_formed-clause-table : goal.returns-then-not-is_well_formed-clause-table
returns-then-not-is_well_formed-clause-table c = sym (bad_rows _ _ (sym c.is_well_formed.ensures ∙ c.if-not-is_well_formed.true))

-- past the test the sheet is well formed
pub overflow_mul-count : goal.overflow_mul-count
overflow_mul-count c =
    let n = counted _ c.unsigned16-rows.ensures c.unsigned16-version.ensures c.row_words.ensures in
    omega (arith, n, (words_within _ (sym c.is_well_formed.ensures ∙ c.if-not-is_well_formed.false)).1)

pub read_rows-requires : goal.read_rows-requires
read_rows-requires c =
    let n = counted _ c.unsigned16-rows.ensures c.unsigned16-version.ensures c.row_words.ensures in
    let w = words_within _ (sym c.is_well_formed.ensures ∙ c.if-not-is_well_formed.false) in
    (w.0, omega (arith, w.1, n, c.well_formed))

pub returns-then-version-eq-REQUEST_VERSION-clause-sheet : goal.returns-then-version-eq-REQUEST_VERSION-clause-sheet
returns-then-version-eq-REQUEST_VERSION-clause-sheet c =
    let n = counted _ c.unsigned16-rows.ensures c.unsigned16-version.ensures c.row_words.ensures in
    ap₂ (λ (k m : ℕ). Some (Requests k m)) n c.unsigned32-space.ensures
    ∙ requests_read _ (sym c.is_well_formed.ensures ∙ c.if-not-is_well_formed.false) (sym c.unsigned16-version.ensures ∙ c.if-version-eq-REQUEST_VERSION.true)

pub returns-then-version-eq-REQUEST_VERSION-clause-table : goal.returns-then-version-eq-REQUEST_VERSION-clause-table
returns-then-version-eq-REQUEST_VERSION-clause-table c =
    stored _ c.unsigned16-rows.ensures c.unsigned16-version.ensures c.row_words.ensures _ (sym c.is_well_formed.ensures ∙ c.if-not-is_well_formed.false) c.read_rows.ensures

pub returns-clause-sheet : goal.returns-clause-sheet
returns-clause-sheet c =
    let n = counted _ c.unsigned16-rows.ensures c.unsigned16-version.ensures c.row_words.ensures in
    ap₂ (λ (k m : ℕ). Some (Shapes k m)) n c.unsigned32-space.ensures
    ∙ shapes_read _ (sym c.is_well_formed.ensures ∙ c.if-not-is_well_formed.false) (λ z. c.if-version-eq-REQUEST_VERSION.false (c.unsigned16-version.ensures ∙ z))

pub returns-clause-table : goal.returns-clause-table
returns-clause-table c =
    stored _ c.unsigned16-rows.ensures c.unsigned16-version.ensures c.row_words.ensures _ (sym c.is_well_formed.ensures ∙ c.if-not-is_well_formed.false) c.read_rows.ensures
