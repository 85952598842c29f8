-- What a subtraction that is asked for, with a refusal in place of a number below 0, tells where it is refused and where it is done.
use Rattle.std.proofs.Common.{ℕ, ◌-◌, ◌<◌, ◌≤◌, ◌≡◌, Option, Some, None, Ok, Err, SomeIff, ok_or, ⊎_elim}
use Rattle.bounded.proofs.Boolean.{lt_or_le}

module _ {E : Type 0} {m n : ℕ} (e : E) where
  -- There is too little, and the refusal is the one that was named.
  pub too_little : (o : Option ℕ) {x : E} → SomeIff o (n ≤ m) (m - n) → Err x ≡ ok_or o e → (x ≡ e) × (m < n)
  too_little None s r = (cc, ⊎_elim (λ l. l) (λ l. absurd (s l)) (lt_or_le m n))
  too_little (Some v) s r = cc

  -- There is enough, and the rest is what is left.
  pub what_is_left : (o : Option ℕ) {v : ℕ} → SomeIff o (n ≤ m) (m - n) → Ok v ≡ ok_or o e → (n ≤ m) × (v ≡ m - n)
  what_is_left None s r = cc
  what_is_left (Some w) s r = (s.0, cc)
