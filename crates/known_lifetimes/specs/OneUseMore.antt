-- What one use of a tensor adds to what is known of it, as the code works it out. That it is what document 01's definitions say of one use more, for a good
-- use, is proved where the uses are gathered (`tensor_lifetimes`).
use Rattle.std.specs.Prelude.{ℕ, ◌+◌, min, max, Bool, true, false, ◌||◌, ltb, eqb}
use Rattle.lifetime_rule.specs.Uses.{writes, model_input, model_output, greatest_operators}
use Rattle.lifetime_rule.specs.declared.Use.{Use}
use Rattle.known_lifetimes.specs.declared.Lifetime.{Lifetime}

-- The lowest operator that may read a tensor, with one use of it more.
unfoldable pub readable_with : ℕ → Use → ℕ
readable_with r x = elim (eqb x.role model_input) [ true ↦ 0 | false ↦ elim (eqb x.role writes) [ true ↦ min r (x.operator.0 + 1) | false ↦ r ] ]

-- A use of another role or past the limit of operators, which no good use is, says nothing.
abbrev pub says_nothing : Use → Bool
says_nothing x = ltb model_output x.role || ltb greatest_operators x.operator.0

-- What is known of a tensor with one use of it more, by a model of so many operators. Role 3 moves the end alone.
unfoldable pub lifetime_with : Lifetime → Use → ℕ → Lifetime
lifetime_with l x operators =
    elim (says_nothing x) [
      | true ↦ l
      | false ↦ elim (eqb x.role model_output) [
        | true ↦ record { first = l.first; end = record { 0 = operators }; readable = l.readable }
        | false ↦ record {
          first = record { 0 = min l.first.0 x.operator.0 };
          end = record { 0 = max l.end.0 (x.operator.0 + 1) };
          readable = record { 0 = readable_with l.readable.0 x };
        }
      ]
    ]
