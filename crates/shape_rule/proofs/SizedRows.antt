-- Law: the request table of a shape table, row by row: as many rows, each with its size, and with its first, last and offset as they are.
use Rattle.std.specs.Prelude.{ℕ, ◌+◌, ◌*◌, ◌/◌, ◌%◌, ◌<◌, ◌≤◌, List, ◌≡◌, refl, ℤ, pos, length, take}
use Rattle.std.proofs.Common.{sym, ◌∙◌}
use Rattle.std.proofs.Math.Path.{ap, ap₂}
use native.Mathlib.Omega.{arith}
use Rattle.bounded.proofs.Listed.{from_length, from_at, replaced_front}
use Rattle.request_table.specs.Table.{rows, word}
use Rattle.shape_rule.proofs.ShapeAnswers.{size_word, own_word, done_requests}
use Rattle.shape_rule.specs.ShapeTable.{shape_count, shape_word, tensor_size}
use Rattle.shape_rule.specs.Sized.{request_word, request_entry, sized_table, sized_of, final_requests}

module _ (t : List ℤ) where
  -- It has four words for each shape,
  pub sized_length : length (sized_table t) ≡ shape_count t * 4
  unfolding sized_table
  sized_length = from_length (request_entry t) 0 (shape_count t * 4)

  -- so as many rows.
  pub sized_rows : rows (sized_table t) ≡ shape_count t
  sized_rows = omega (arith, sized_length)

  -- It is what a done call leaves in front of the lent table.
  pub stored_rows : (requests : List ℤ) → (sized_of t (length requests)).number ≡ 0 → shape_count t * 4 ≤ length requests
      → take (shape_count t * 4) (final_requests t requests) ≡ sized_table t
  unfolding sized_table
  stored_rows requests e l = ap (take (shape_count t * 4)) (done_requests t requests e) ∙ replaced_front (request_entry t) (shape_count t * 4) requests (pos 0) l

  module _ (r : ℕ) (l : r < shape_count t) where
    entry : (column : ℕ) → column < 4 → word (sized_table t) r column ≡ request_word t r column
    unfolding sized_table
    entry column m =
        let row : (0 + (r * 4 + column)) / 4 ≡ r = omega arith in
        let place : (0 + (r * 4 + column)) % 4 ≡ column = omega arith in
        from_at (request_entry t) 0 (shape_count t * 4) (r * 4 + column) (pos 0) (omega arith) ∙ ap₂ (request_word t) row place

    -- The first of a row's words is its size,
    pub sized_size : word (sized_table t) r 0 ≡ pos (tensor_size t r).need
    sized_size = entry 0 (omega arith) ∙ sym (size_word t r 0 refl)

    -- then come its first moment,
    pub sized_first : word (sized_table t) r 1 ≡ shape_word t r 10
    sized_first = entry 1 (omega arith) ∙ sym (own_word t r 1 (λ e. omega arith))

    -- its last,
    pub sized_last : word (sized_table t) r 2 ≡ shape_word t r 11
    sized_last = entry 2 (omega arith) ∙ sym (own_word t r 2 (λ e. omega arith))

    -- and its offset.
    pub sized_offset : word (sized_table t) r 3 ≡ shape_word t r 12
    sized_offset = entry 3 (omega arith) ∙ sym (own_word t r 3 (λ e. omega arith))
