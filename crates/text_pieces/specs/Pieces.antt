-- What texts are made of. A text is the list of its ASCII codes; "Every line ends in one line feed" (document 01, "The request sheet").
use Rattle.std.specs.Prelude.{ℕ, zero, suc, List, [], ◌∷◌, ◌++◌}
use Rattle.decimal_text.specs.Decimal.{decimal}

-- The line feed that ends a line.
abbrev pub line_feed : List ℕ
line_feed = 10 ∷ []

-- A number with a blank before it.
unfoldable pub spaced : ℕ → List ℕ
spaced n = 32 ∷ decimal n

-- The lines of the numbers below n, by rising number.
unfoldable pub lines_below : (ℕ → List ℕ) → ℕ → List ℕ
lines_below line_of zero = []
lines_below line_of (suc n) = lines_below line_of n ++ line_of n
