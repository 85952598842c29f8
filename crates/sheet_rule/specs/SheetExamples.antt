-- Document 01's Sheet A in a space of 1,024, byte by byte: what is read from it, and that it is bad once its version or its length is another. How long
-- the longest sheets are. And a sheet of version 2.
use Rattle.std.specs.Prelude.{List, [], ◌∷◌, ◌++◌, ℕ, replicate}

-- The mark, a version and three rows.
abbrev pub head_of : ℕ → List ℕ
head_of version = 65 ∷ 82 ∷ 78 ∷ version ∷ 0 ∷ 3 ∷ 0 ∷ []

-- A space of 1,024.
abbrev pub space1024 : List ℕ
space1024 = 0 ∷ 4 ∷ 0 ∷ 0 ∷ []

-- −1 as a word.
abbrev pub unplaced : List ℕ
unplaced = 255 ∷ 255 ∷ 255 ∷ 255 ∷ []

-- The rows of Sheet A: (100, 0–1, −1), (50, 0–2, −1), (40, 2–3, −1).
abbrev pub rows_of_a : List ℕ
rows_of_a =
    (100 ∷ 0 ∷ 0 ∷ 0 ∷ 0 ∷ 0 ∷ 0 ∷ 0 ∷ 1 ∷ 0 ∷ 0 ∷ 0 ∷ [])
    ++ unplaced
    ++ (50 ∷ 0 ∷ 0 ∷ 0 ∷ 0 ∷ 0 ∷ 0 ∷ 0 ∷ 2 ∷ 0 ∷ 0 ∷ 0 ∷ [])
    ++ unplaced
    ++ (40 ∷ 0 ∷ 0 ∷ 0 ∷ 2 ∷ 0 ∷ 0 ∷ 0 ∷ 3 ∷ 0 ∷ 0 ∷ 0 ∷ [])
    ++ unplaced

-- Sheet A, with that version.
abbrev pub sheet_a : ℕ → List ℕ
sheet_a version = head_of version ++ space1024 ++ rows_of_a

-- A tensor of 7 by 3 as the one row of a sheet of version 2, with that code, from moment 0 to 1, placed by us. A dimension past the number stands in it
-- too, −1.
abbrev pub shaped_sheet : ℕ → List ℕ
shaped_sheet code =
    (65 ∷ 82 ∷ 78 ∷ 2 ∷ 0 ∷ 1 ∷ 0 ∷ [])
    ++ space1024
    ++ (code ∷ 0 ∷ 0 ∷ 0 ∷ 2 ∷ 0 ∷ 0 ∷ 0 ∷ 7 ∷ 0 ∷ 0 ∷ 0 ∷ 3 ∷ 0 ∷ 0 ∷ 0 ∷ [])
    ++ unplaced
    ++ replicate 20 0
    ++ (0 ∷ 0 ∷ 0 ∷ 0 ∷ 1 ∷ 0 ∷ 0 ∷ 0 ∷ [])
    ++ unplaced
