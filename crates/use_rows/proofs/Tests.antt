-- What the code works out of a use is what the definitions say, over plain values: a wrong test or field then fails here by what differs.
use Prim.Native.Nat.{ℕ, ◌+◌, ◌*◌, ◌≤◌}
use mathlib.Core.Bool.{Bool, not}
use mathlib.Core.List.{List}
use mathlib.Core.Path.{◌≡◌, sym, ◌∙◌, ap}
use native.Mathlib.Omega.{arith}
use lib.IntN.{ℤ, pos}
use lib.ListN.{length, get_or-eq_default}
use Rattle.words.specs.Words.{word_at, natural}
use Rattle.lifetime_rule.specs.Uses.{word, use_at, good, bad_use}
use Rattle.lifetime_rule.specs.declared.Use.{Use}

-- A use, from its words.
pub use_is : (u : List ℤ) (k : ℕ) {operator tensor role : ℕ} → operator ≡ natural (word_at u (k * 3)) → tensor ≡ natural (word u k 1) → role ≡ natural (word u k 2)
    → ◌≡◌ {A = Use} (record { operator = record { 0 = operator }; tensor = record { 0 = tensor }; role = role }) (use_at u k)
unfolding use_at
use_is u k o t r =
    let start : k * 3 ≡ k * 3 + 0 = omega arith in
    let first = o ∙ ap (λ (n : ℕ). natural (word_at u n)) start in
    λ i. record { operator = record { 0 = first i }; tensor = record { 0 = t i }; role = r i }

-- A use past the end of the list, of zeros.
pub use_past : (u : List ℤ) (k : ℕ) → length u ≤ k → ◌≡◌ {A = Use} (record { operator = record { 0 = 0 }; tensor = record { 0 = 0 }; role = 0 }) (use_at u k)
unfolding natural
use_past u k l = use_is u k (zero (k * 3) (omega arith)) (zero (k * 3 + 1) (omega arith)) (zero (k * 3 + 2) (omega arith))
  where
    zero : (i : ℕ) → length u ≤ i → 0 ≡ natural (word_at u i)
    zero i m = sym (ap natural (get_or-eq_default u (pos 0) m))

-- The test of a bad use, on the use that was read.
pub bad_is : (operators tensors : ℕ) (u : List ℤ) (k : ℕ) {x : Use} {passes : Bool} → x ≡ use_at u k → passes ≡ good operators tensors x
    → bad_use operators tensors u k ≡ not passes
bad_is operators tensors u k p q = ap (λ (y : Use). not (good operators tensors y)) (sym p) ∙ ap not (sym q)
