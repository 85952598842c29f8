-- Law: "One that has only role 3 is still number 20" (document 02, order 2). A tensor of which every use has role 3 is named by no operator, so that a list
-- of good uses within the limits is refused by number 20, for that tensor or a lower one.
use Rattle.std.specs.Prelude.{ℕ, ◌<◌, List, ◌≡◌, ℤ, pos}
use Rattle.lifetime_rule.specs.Uses.{model_output, count, word}

-- Every use of tensor t has role 3.
abbrev pub OnlyOutput : List ℤ → ℕ → Type 0
OnlyOutput u t = (k : ℕ) → k < count u → word u k 1 ≡ pos t → word u k 2 ≡ pos model_output
