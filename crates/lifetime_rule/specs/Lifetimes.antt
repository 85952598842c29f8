-- Lives (document 01, "The desk's order of checks", Lives): "A life runs from the lowest to the highest operator that names the tensor by role 0 or 1;
-- role 2 counts as naming by operator 0. [..] A read needs role 2 or a write by an earlier operator." Document 02, order 2, corrects what document 01 says
-- of role 3: "A tensor with role 3 now lives through operator T − 1. One that has only role 3 is still number 20." Where a use stands in the list says
-- nothing; an operator is earlier where its number is lower. The documents' life is a lifetime here.
use Rattle.std.specs.Prelude.{ℕ, ◌-◌, Bool, true, false, not, ◌&&◌, ◌||◌, List, ltb, eqb, ℤ, pos}
use Rattle.bounded.specs.First.{first_in, holds_below}
use Rattle.bounded.specs.Last.{last_in}
use Rattle.bounded.specs.TwoEach.{two_each}
use Rattle.lifetime_rule.specs.Uses.{reads, writes, model_input, model_output, count, use_at}
use Rattle.lifetime_rule.specs.declared.Use.{Use}

-- The use names tensor t by operator m: by role 0 or 1 that is its own operator, and "role 2 counts as naming by operator 0".
unfoldable pub names : Use → ℕ → ℕ → Bool
names x t m =
    eqb x.tensor.0 t
    && (((eqb x.role reads || eqb x.role writes) && eqb x.operator.0 m)
    || (eqb x.role model_input && eqb 0 m))

-- Operator m names tensor t in some use.
unfoldable pub named : List ℤ → ℕ → ℕ → Bool
named u t m = holds_below (λ k. names (use_at u k) t m) (count u)

-- The use makes tensor t a model output.
unfoldable pub gives_out : Use → ℕ → Bool
gives_out x t = eqb x.tensor.0 t && eqb x.role model_output

-- "A tensor with role 3", in some use.
unfoldable pub is_output : List ℤ → ℕ → Bool
is_output u t = holds_below (λ k. gives_out (use_at u k) t) (count u)

-- "A life runs from the lowest
unfoldable pub first_of : ℕ → List ℤ → ℕ → ℕ
first_of operators u t = first_in (named u t) 0 operators

-- to the highest operator that names the tensor"; but "A tensor with role 3 now lives through operator T − 1".
unfoldable pub last_of : ℕ → List ℤ → ℕ → ℕ
last_of operators u t = elim (is_output u t) [ true ↦ operators - 1 | false ↦ last_in (named u t) operators ]

-- "tensor never named": by no operator. "One that has only role 3 is still number 20."
unfoldable pub unnamed : ℕ → List ℤ → ℕ → Bool
unnamed operators u t = not (holds_below (named u t) operators)

-- The use lets operator m read tensor t: "role 2 or a write by an earlier operator".
unfoldable pub lets : Use → ℕ → ℕ → Bool
lets x t m = eqb x.tensor.0 t && (eqb x.role model_input || (eqb x.role writes && ltb x.operator.0 m))

-- Operator m may read tensor t.
unfoldable pub readable : List ℤ → ℕ → ℕ → Bool
readable u t m = holds_below (λ k. lets (use_at u k) t m) (count u)

-- "read before written": the use reads a tensor that its operator may not read.
unfoldable pub too_early : List ℤ → ℕ → Bool
too_early u k = eqb (use_at u k).role reads && not (readable u (use_at u k).tensor.0 (use_at u k).operator.0)

-- "Answer: first and last for each tensor": entries 2t and 2t + 1 of the lifetimes are tensor t's.
abbrev pub lifetime_word : ℕ → List ℤ → ℕ → ℤ
lifetime_word operators u = two_each (λ t. pos (first_of operators u t)) (λ t. pos (last_of operators u t))
