-- A list put over the first entries of another: xs ++ drop n ys, where xs has n entries. What stands behind them stays.
use Rattle.std.specs.Prelude.{ℕ, ◌-◌, ◌<◌, ◌≤◌, List, ◌++◌, ◌≡◌, length, get_or, drop}
use Rattle.std.proofs.Common.{◌∙◌, ap, arith, length-append, length-drop, get_or-append-add, get_or-drop}
use Rattle.std.proofs.Math.ListN.{get_or-append}

module _ {A : Type 0} (xs ys : List A) {n : ℕ} (long : length xs ≡ n) where
  -- It is as long as the other,
  pub front_length : n ≤ length ys → length (xs ++ drop n ys) ≡ length ys
  front_length l = simp (length-append, length-drop) (omega arith)

  -- its first n entries are the list's,
  pub front_at : (d : A) (i : ℕ) → i < n → get_or (xs ++ drop n ys) i d ≡ get_or xs i d
  front_at d i l = get_or-append xs (drop n ys) d i (omega arith)

  -- and from there on the other's.
  pub front_past : (d : A) (i : ℕ) → n ≤ i → get_or (xs ++ drop n ys) i d ≡ get_or ys i d
  front_past d i l =
      ap (λ (k : ℕ). get_or (xs ++ drop n ys) k d) (omega arith)
      ∙ get_or-append-add xs (drop n ys) (i - n) d
      ∙ get_or-drop n ys (i - n) d
      ∙ ap (λ (k : ℕ). get_or ys k d) (omega arith)
