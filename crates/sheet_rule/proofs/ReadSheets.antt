-- What a sheet is read as, its table and its space or nothing, and what reading leaves in the lent table.
use Rattle.std.specs.Prelude.{ℕ, ◌*◌, ◌%◌, Bool, true, false, not, List, ◌++◌, ◌⊎◌, ◌≡◌, refl, Option, Some, None, ℤ, length, drop}
use Rattle.std.proofs.Common.{inl, inr, sym, ◌∙◌, ap, subst, arith, eq-eqb, ne_eqb}
use Rattle.bounded.proofs.Boolean.{same_or_not}
use Rattle.bounded.specs.Causes.{Gives}
use Rattle.bounded.proofs.Causes.{given, next, none_left}
use Rattle.request_table.specs.Table.{rows}
use Rattle.shape_rule.specs.ShapeTable.{shape_count}
use Rattle.word_lists.proofs.WordsComeBack.{words_length}
use Rattle.sheet_rule.specs.Sheet.{version, row_count, sheet_space, row_words, word_count, sheet_words, well_formed, sheet_causes, sheet_of, words_read}
use Rattle.sheet_rule.specs.declared.Sheet.{Sheet}
use Rattle.sheet_rule.specs.declared.Sheet.TheVariants.{Requests, Shapes}
use Rattle.sheet_rule.proofs.GoodSheets.{request_words, shape_words, second}

module _ (sheet : List ℕ) where
  given_sheet : {x : Option Sheet} → Gives (sheet_causes sheet) (Some (Shapes (word_count sheet) (sheet_space sheet))) x → x ≡ sheet_of sheet
  unfolding sheet_of
  given_sheet g = g.is

  -- A good sheet of version 1 is read as its requests and its space,
  pub requests_read : well_formed sheet ≡ true → version sheet ≡ 1 → Some (Requests (word_count sheet) (sheet_space sheet)) ≡ sheet_of sheet
  requests_read e v = given_sheet (next (ap not e) (given (eq-eqb _ _ v)))

  -- of the other as its shapes and its space,
  pub shapes_read : well_formed sheet ≡ true → (version sheet ≡ 1 → ⊥) → Some (Shapes (word_count sheet) (sheet_space sheet)) ≡ sheet_of sheet
  shapes_read e v = given_sheet (next (ap not e) (next (ne_eqb _ _ v) none_left))

  -- any other as bad.
  pub bad_read : well_formed sheet ≡ false → None ≡ sheet_of sheet
  bad_read e = given_sheet (given (ap not e))

  -- The rows of a good sheet are put in front of the table,
  pub good_rows : (table : List ℤ) → well_formed sheet ≡ true → words_read sheet table ≡ sheet_words sheet ++ drop (word_count sheet) table
  unfolding words_read
  good_rows table e = rw (e, words_read)

  -- a bad one changes nothing.
  pub bad_rows : (table : List ℤ) → well_formed sheet ≡ false → words_read sheet table ≡ table
  unfolding words_read
  bad_rows table e = rw (e, words_read)

  -- The words are as many as its rows have.
  words_are : {n : ℕ} → n ≡ row_words (version sheet) → length (sheet_words sheet) ≡ row_count sheet * n
  words_are e = words_length sheet 11 (word_count sheet) ∙ ap (λ (k : ℕ). row_count sheet * k) (sym e)

  -- As a request table they have as many rows as the sheet counts,
  pub rows_are : version sheet ≡ 1 → rows (sheet_words sheet) ≡ row_count sheet
  rows_are v = omega (arith, words_are (request_words v))

  -- and so they have as a shape table, with nothing but whole rows.
  pub shapes_are : version sheet ≡ 2 → (length (sheet_words sheet) % 13 ≡ 0) × (shape_count (sheet_words sheet) ≡ row_count sheet)
  shapes_are v = let w = words_are (shape_words v) in (omega (arith, w), omega (arith, w))

  -- What a sheet is read as tells what it is.
  pub data ReadAs : Option Sheet → Type 0 where
    bad : well_formed sheet ≡ false → ReadAs None
    of_requests : well_formed sheet ≡ true → version sheet ≡ 1 → ReadAs (Some (Requests (word_count sheet) (sheet_space sheet)))
    of_shapes : well_formed sheet ≡ true → version sheet ≡ 2 → ReadAs (Some (Shapes (word_count sheet) (sheet_space sheet)))

  -- So every sheet is read.
  pub read_as : ReadAs (sheet_of sheet)
  read_as = go (well_formed sheet) refl (same_or_not (version sheet) 1)
    where
      go : (b : Bool) → well_formed sheet ≡ b → (version sheet ≡ 1) ⊎ (version sheet ≡ 1 → ⊥) → ReadAs (sheet_of sheet)
      go true w (inl v) = subst ReadAs (requests_read w v) (of_requests w v)
      go true w (inr v) = subst ReadAs (shapes_read w v) (of_shapes w (second sheet w v))
      go false w v = subst ReadAs (bad_read w) (bad w)

  -- A table that was read is that of a well-formed sheet of its version, with its words and its space.
  pub record Table (number count space : ℕ) : Type 0 where
    pub well : well_formed sheet ≡ true
    pub of_version : version sheet ≡ number
    pub counted : count ≡ word_count sheet
    pub spaced : space ≡ sheet_space sheet

  -- Requests are those of version 1,
  pub requests_say : {count space : ℕ} → ReadAs (Some (Requests count space)) → Table 1 count space
  requests_say (of_requests w v) = record { well = w; of_version = v; counted = refl; spaced = refl }

  -- shapes those of version 2,
  pub shapes_say : {count space : ℕ} → ReadAs (Some (Shapes count space)) → Table 2 count space
  shapes_say (of_shapes w v) = record { well = w; of_version = v; counted = refl; spaced = refl }

  -- and where nothing was read the sheet is not well formed.
  pub bad_says : ReadAs None → well_formed sheet ≡ false
  bad_says (bad w) = w
