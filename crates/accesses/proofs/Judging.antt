-- A touch from its words, and the moment of the one before.
use Prim.Native.Nat.{ℕ, ◌+◌, ◌*◌, ◌≤◌}
use Rattle.std.proofs.Common.{sym, ◌∙◌, ap, arith}
use Rattle.std.specs.Prelude.{Bool, ◌&&◌, List, Option, Some, leb, ltb, ◌≡◌, ℤ, pos, length}
use lib.ListN.{get_or-eq_default}
use Rattle.words.specs.Words.{word_at, natural, is_minus_one}
use Rattle.request_table.specs.Table.{rows, word, request}
use Rattle.request_table.specs.declared.Request.{Request}
use Rattle.access_rule.specs.Accesses.{write_of, access, moment_before, allowed, reaches, good}
use Rattle.access_rule.specs.declared.Access.{Access}

-- A touch, from its words.
pub access_is : (s : List ℤ) (k : ℕ) {moment row index : ℕ} {write : Option ℕ}
    → moment ≡ natural (word_at s (k * 4)) → row ≡ natural (word s k 1) → index ≡ natural (word s k 2) → write ≡ write_of (word s k 3)
    → ◌≡◌ {A = Access} (record { moment = record { 0 = moment }; row = record { 0 = row }; index = index; write = write }) (access s k)
unfolding access
access_is s k m r i w =
    let start : k * 4 ≡ k * 4 + 0 = omega arith in
    let first = m ∙ ap (λ (n : ℕ). natural (word_at s n)) start in
    λ j. record { moment = record { 0 = first j }; row = record { 0 = r j }; index = i j; write = w j }

-- A touch past the end of the script, of zeros.
pub access_past : (s : List ℤ) (k : ℕ) → length s ≤ k
    → ◌≡◌ {A = Access} (record { moment = record { 0 = 0 }; row = record { 0 = 0 }; index = 0; write = Some 0 }) (access s k)
unfolding natural is_minus_one
access_past s k l =
    access_is s k (none (k * 4) (omega arith)) (none (k * 4 + 1) (omega arith)) (none (k * 4 + 2) (omega arith))
    (sym (ap write_of (get_or-eq_default s (pos 0) (omega arith))))
  where
    none : (i : ℕ) → length s ≤ i → 0 ≡ natural (word_at s i)
    none i m = sym (ap natural (get_or-eq_default s (pos 0) m))

-- Touch k is good: what the code works out of it is what the definition says.
pub good_is : (t s : List ℤ) (k : ℕ) {a : Access} {x : Request} {m n : ℕ} {rises begun lasting ok : Bool}
    → a ≡ access s k → x ≡ request t a.row.0 → m ≡ moment_before s k → n ≡ rows t
    → rises ≡ leb m a.moment.0 → begun ≡ leb x.first.0 a.moment.0 → lasting ≡ leb a.moment.0 x.last.0 → ok ≡ allowed a
    → rises && (ltb a.row.0 n && ((begun && lasting) && (ltb a.index x.size && ok))) ≡ good t s k
unfolding good reaches
good_is t s k a x m n r b l o = cc
