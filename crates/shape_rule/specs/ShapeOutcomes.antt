-- Law: what is answered for a row of shapes and for a table of them, and when, in document 02's words: a row with a negative number of dimensions or more
-- than eight is number 2; of a table, 1, 2 and 3 for the lengths, then the lowest bad shape by its own number with its row; each only where none before
-- it holds.
use Rattle.std.specs.Prelude.{ℕ, ◌+◌, ◌*◌, ◌%◌, ◌<◌, ◌≤◌, List, ◌≡◌, ℤ, pos, length, take, drop, ◌<ℤ◌}
use Rattle.answer.specs.Answer.{refused, refused_at, done_with, not_whole_rows, too_many, table_too_short}
use Rattle.bounded.specs.Lowest.{Lowest}
use Rattle.request_table.specs.Limits.{greatest_rows}
use Rattle.tensor_sizes.specs.ByteSize.{byte_size_of}
use Rattle.shape_rule.specs.ShapeAnswers.{Fitting}
use Rattle.shape_rule.specs.ShapeTable.{shape_count, shape_word, tensor_size}
use Rattle.shape_rule.specs.Sized.{shapes_of, sized_of}

-- What the size of a row may be.
pub data RowOutcome (t : List ℤ) (r : ℕ) : Type 0 where
  negative_count : shape_word t r 1 <ℤ pos 0 → tensor_size t r ≡ refused too_many → RowOutcome t r
  too_many_dimensions : pos 8 <ℤ shape_word t r 1 → tensor_size t r ≡ refused too_many → RowOutcome t r
  by_shape : (n : ℕ) → n ≤ 8 → shape_word t r 1 ≡ pos n → tensor_size t r ≡ byte_size_of (take n (drop (r * 13 + 2) t)) (shape_word t r 0) → RowOutcome t r

-- ---- the table

module _ (t : List ℤ) (room : ℕ) where
  -- What the answer may be.
  pub data SizedOutcome : Type 0 where
    not_whole : (length t % 13 ≡ 0 → ⊥) → sized_of t room ≡ refused not_whole_rows → SizedOutcome
    too_many_case : length t % 13 ≡ 0 → greatest_rows < shape_count t → sized_of t room ≡ refused too_many → SizedOutcome
    too_short : length t % 13 ≡ 0 → shape_count t ≤ greatest_rows → room < shape_count t * 4 → sized_of t room ≡ refused table_too_short → SizedOutcome
    bad_shape_case : (a : ℕ) → Fitting t room → Lowest (λ r. (tensor_size t r).number ≡ 0 → ⊥) (shape_count t) a
        → sized_of t room ≡ refused_at (tensor_size t a).number a → SizedOutcome
    sized : Fitting t room → ((r : ℕ) → r < shape_count t → (tensor_size t r).number ≡ 0) → sized_of t room ≡ done_with 0 → SizedOutcome

-- The shapes alone: the lowest bad one, or none.
pub data ShapesOutcome (t : List ℤ) : Type 0 where
  lowest_bad : (a : ℕ) → Lowest (λ r. (tensor_size t r).number ≡ 0 → ⊥) (shape_count t) a → shapes_of t ≡ refused_at (tensor_size t a).number a → ShapesOutcome t
  all_good : ((r : ℕ) → r < shape_count t → (tensor_size t r).number ≡ 0) → shapes_of t ≡ done_with 0 → ShapesOutcome t
