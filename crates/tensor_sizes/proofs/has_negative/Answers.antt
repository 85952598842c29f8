-- `tensor_sizes::has_negative` meets its contract: the library's search for a dimension below 0.
use Rattle.std.specs.Prelude.{Bool, ◌≡◌, List, [], ◌∷◌, ◌||◌, ℤ, pos}
use Rattle.std.proofs.Common.{refl, rules, ap, ◌∙◌}
use Rattle.std.specs.Int.Signed.{lt_z}
use Rattle.std.specs.List.{list_any}
use Rattle.std.proofs.lemmas.Iterator.Search.{any_from_yields_List}
use Rattle.std.proofs.lemmas.Iterator.{YieldsList-from_slice}
use Rattle.tensor_sizes.specs.ByteSize.{has_negative}
use Rattle.tensor_sizes.proofs.has_negative.Goals as goal

-- the search over the list is the definition
any_negative : (shape : List ℤ) → list_any (λ (z : ℤ). lt_z z (pos 0)) shape ≡ has_negative shape
unfolding has_negative
any_negative [] = refl
any_negative (x ∷ xs) = ap (λ (b : Bool). lt_z x (pos 0) || b) (any_negative xs)

pub returns : goal.returns
returns c = any_from_yields_List (λ (z : ℤ). lt_z z (pos 0)) _ _ _ c.any.ensures.ran (YieldsList-from_slice c.args.shape.now cc) (λ x b q k. search rules) ∙ any_negative c.args.shape.now
