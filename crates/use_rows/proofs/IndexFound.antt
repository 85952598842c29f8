-- What a caller learns of a search that gives the index itself: `found_some` and `found_none` of `bounded` for an index under its own name.
use Rattle.std.specs.Prelude.{ℕ, ◌<◌, ◌≤◌, Bool, Some, None, ◌≡◌}
use Rattle.std.proofs.Common.{ap}
use Rattle.std.specs.Option.{option_map}
use Rattle.bounded.specs.First.{first_in, found_in}
use Rattle.bounded.proofs.Found.{found_some, found_none}

-- Of an index,
pub index_found : (p : ℕ → Bool) (n k : ℕ) → found_in p 0 n ≡ Some k → (first_in p 0 n < n) × (first_in p 0 n ≡ k)
index_found p n k e = found_some (λ (i : ℕ). i) _ n k (ap (option_map (λ (i : ℕ). i)) e)

-- and of none.
pub none_found : (p : ℕ → Bool) (n : ℕ) → found_in p 0 n ≡ None → n ≤ first_in p 0 n
none_found p n e = found_none (λ (i : ℕ). i) _ n (ap (option_map (λ (i : ℕ). i)) e)
