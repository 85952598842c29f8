-- What the code gathers of each tensor: what the first j uses say of it, one use after the other.
use Rattle.std.specs.Prelude.{ℕ, ◌-◌, ◌<◌, ◌≤◌, Bool, true, false, ◌&&◌, List, ◌≡◌, leb, ltb, eqb, ℤ, pos, get_or}
use Rattle.bounded.specs.First.{first_in, holds_below}
use Rattle.bounded.specs.Last.{end_in}
use Rattle.bounded.specs.TwoEach.{two_each}
use Rattle.lifetime_rule.specs.Answers.{EachGood}
use Rattle.lifetime_rule.specs.Lifetimes.{names, gives_out, lets}
use Rattle.lifetime_rule.specs.Uses.{reads, greatest_operators, greatest_tensors, count, use_at}
use Rattle.lifetime_rule.specs.declared.Use.{Use}
use Rattle.known_lifetimes.specs.declared.Lifetime.{Lifetime}

-- Operator m names tensor t in one of the first j uses.
unfoldable pub named_so_far : List ℤ → ℕ → ℕ → ℕ → Bool
named_so_far u j t m = holds_below (λ k. names (use_at u k) t m) j

-- One of the first j uses makes tensor t a model output.
unfoldable pub output_so_far : List ℤ → ℕ → ℕ → Bool
output_so_far u j t = holds_below (λ k. gives_out (use_at u k) t) j

-- The end of a life: one past the last of so many operators for a model output, else one past the last at which the test of naming holds.
unfoldable pub end_by : Bool → (ℕ → Bool) → ℕ → ℕ
end_by output p operators = elim output [ true ↦ operators | false ↦ end_in p operators ]

-- One of the first j uses lets operator m read tensor t.
unfoldable pub readable_so_far : List ℤ → ℕ → ℕ → ℕ → Bool
readable_so_far u j t m = holds_below (λ k. lets (use_at u k) t m) j

-- What the first j uses say of tensor t.
unfoldable pub lifetime_so_far : ℕ → List ℤ → ℕ → ℕ → Lifetime
lifetime_so_far operators u j t =
    record {
      first = record { 0 = first_in (named_so_far u j t) 0 operators };
      end = record { 0 = end_by (output_so_far u j t) (named_so_far u j t) operators };
      readable = record { 0 = first_in (readable_so_far u j t) 0 operators };
    }

-- What is known of a tensor before any use.
abbrev pub no_lifetime : ℕ → Lifetime
no_lifetime operators = record { first = record { 0 = operators }; end = record { 0 = 0 }; readable = record { 0 = operators } }

-- The life of a tensor in an array; past its end, one of zeros.
abbrev pub lifetime_in : List Lifetime → ℕ → Lifetime
lifetime_in gathered t = get_or gathered t (no_lifetime 0)

-- A list of good uses, for some number of tensors within the limit.
pub record GoodList (operators : ℕ) (u : List ℤ) : Type 0 where
  pub tensors : ℕ
  pub few_tensors : tensors ≤ greatest_tensors
  pub few_operators : operators ≤ greatest_operators
  pub uses_good : EachGood operators tensors u

-- The array has what the whole list says of each tensor.
pub record HoldsLifetimes (operators : ℕ) (u : List ℤ) (gathered : List Lifetime) : Type 0 where
  pub each : (t : ℕ) → t < greatest_tensors → lifetime_in gathered t ≡ lifetime_so_far operators u (count u) t

-- The lives of so many tensors can be stored: each has a last moment, and the moments are signed words.
pub record StorableLifetimes (tensors : ℕ) (gathered : List Lifetime) : Type 0 where
  pub ended : (t : ℕ) → t < tensors → 0 < (lifetime_in gathered t).end.0
  pub first_small : (t : ℕ) → t < tensors → (lifetime_in gathered t).first.0 ≤ greatest_operators
  pub end_small : (t : ℕ) → t < tensors → (lifetime_in gathered t).end.0 ≤ greatest_operators

-- By the array, no operator names the tensor.
abbrev pub unnamed_in : ℕ → List Lifetime → ℕ → Bool
unnamed_in operators gathered t = leb operators (lifetime_in gathered t).first.0

-- By the array, the use reads a tensor that its operator may not read.
abbrev pub reads_early : List Lifetime → Use → Bool
reads_early gathered x = eqb x.role reads && ltb x.operator.0 (lifetime_in gathered x.tensor.0).readable.0

-- So does the use of that number.
abbrev pub early_in : List ℤ → List Lifetime → ℕ → Bool
early_in u gathered k = reads_early gathered (use_at u k)

-- The entries of a table of lifetimes, from the array.
abbrev pub stored_word : List Lifetime → ℕ → ℤ
stored_word gathered = two_each (λ t. pos (lifetime_in gathered t).first.0) (λ t. pos ((lifetime_in gathered t).end.0 - 1))
