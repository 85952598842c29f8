-- Laws of the definitions of specs/SheetExamples.antt.
use Rattle.std.specs.Prelude.{[], ◌∷◌, ◌++◌, ◌≡◌, refl, Some, None, pos, negsuc}
use Rattle.request_table.specs.Limits.{greatest_rows}
use Rattle.word_bytes.specs.Bytes.{little_endian, signed_word, word_of}
use Rattle.word_lists.specs.WordLists.{words_from}
use Rattle.sheet_rule.specs.Sheet.{marked, row_words, sheet_bytes, sheet_words, well_formed, sheet_of}
use Rattle.sheet_rule.specs.declared.Sheet.TheVariants.{Requests, Shapes}
use Rattle.sheet_rule.specs.SheetExamples.{shaped_sheet, sheet_a}

-- "A sheet is now at most 16,395 bytes in version 1 and 53,259 in version 2" (document 02, order 5).
pub longest_sheets : (sheet_bytes 1 greatest_rows ∷ sheet_bytes 2 greatest_rows ∷ []) ≡ (16395 ∷ 53259 ∷ [])
unfolding row_words
longest_sheets = refl

-- It is read as twelve words and a space of 1,024,
pub sheet_a_read : sheet_of (sheet_a 1) ≡ Some (Requests 12 1024)
unfolding little_endian marked row_words well_formed sheet_of
sheet_a_read = refl

-- the words of its rows,
pub sheet_a_rows : sheet_words (sheet_a 1)
    ≡ pos 100 ∷ pos 0 ∷ pos 1 ∷ negsuc 0 ∷ pos 50 ∷ pos 0 ∷ pos 2 ∷ negsuc 0 ∷ pos 40 ∷ pos 2 ∷ pos 3 ∷ negsuc 0 ∷ []
unfolding little_endian signed_word word_of row_words words_from
sheet_a_rows = refl

-- is bad with a version that there is not,
pub sheet_a_of_other_versions : (sheet_of (sheet_a 0) ∷ sheet_of (sheet_a 3) ∷ []) ≡ (None ∷ None ∷ [])
unfolding little_endian marked row_words well_formed sheet_of
sheet_a_of_other_versions = refl

-- with version 2, whose rows are longer,
pub sheet_a_of_version_2 : sheet_of (sheet_a 2) ≡ None
unfolding little_endian marked row_words well_formed sheet_of
sheet_a_of_version_2 = refl

-- and with a byte more.
pub sheet_a_and_a_byte : sheet_of (sheet_a 1 ++ (0 ∷ [])) ≡ None
unfolding little_endian marked row_words well_formed sheet_of
sheet_a_and_a_byte = refl

-- It is read as thirteen words of shapes and a space of 1,024.
pub shaped_read : sheet_of (shaped_sheet 9) ≡ Some (Shapes 13 1024)
unfolding little_endian marked row_words well_formed sheet_of
shaped_read = refl
