-- Laws of the definitions of specs/Entries.antt.
use Rattle.std.specs.Prelude.{zero, suc, List, ◌∷◌}
use Rattle.std.proofs.Common.{le_of_suc-le-suc, arith}
use Rattle.bounded.specs.Entries.{Each, EachTwo}

-- One entry more in front.
pub each_more : {A : Type 0} (So : A → Type 0) (x : A) (xs : List A) (d : A) → So x → Each So xs d → Each So (x ∷ xs) d
each_more So x xs d p f zero l = p
each_more So x xs d p f (suc i) l = f i (le_of_suc-le-suc l)

-- One entry more in front, of which it is so with every other.
pub two_more : {A : Type 0} (So : A → A → Type 0) (x : A) (xs : List A) (d : A) → Each (So x) xs d → EachTwo So xs d → EachTwo So (x ∷ xs) d
two_more So x xs d p f i zero l m = absurd (omega arith)
two_more So x xs d p f zero (suc j) l m = p j (le_of_suc-le-suc m)
two_more So x xs d p f (suc i) (suc j) l m = f i j (le_of_suc-le-suc l) (le_of_suc-le-suc m)
