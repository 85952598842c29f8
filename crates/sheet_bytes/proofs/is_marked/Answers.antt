-- `sheet_bytes::is_marked` meets its contract: the three bytes are those of the definition.
use Rattle.std.specs.Prelude.{ℕ, Bool, true, false, ◌&&◌, List, [], ◌∷◌, eqb, ◌≡◌, refl, take}
use Rattle.std.proofs.Common.{sym, ◌∙◌, eq-eqb, ne_eqb}
use borrow.Author.Tests.{eqb-true, eqb-false}
use lib.Pointwise.{pointwise}
use Rattle.sheet_rule.specs.Sheet.{marked}
use Rattle.sheet_bytes.proofs.is_marked.Goals as goal

-- the library asks whether the letter is the byte, the definition whether the byte is the letter
turned : (m n : ℕ) → eqb m n ≡ eqb n m
turned m n = go (eqb m n) refl
  where
    go : (b : Bool) → eqb m n ≡ b → b ≡ eqb n m
    go true e = sym (eq-eqb n m (sym (eqb-true m n e)))
    go false e = sym (ne_eqb n m (λ q. eqb-false m n e (sym q)))

grouped : (x y z : Bool) → x && (y && (z && true)) ≡ (x && y) && z
grouped true true true = refl
grouped true true false = refl
grouped true false z = refl
grouped false y z = refl

unended : (x y : Bool) → x && (y && false) ≡ (x && y) && false
unended true true = refl
unended true false = refl
unended false y = refl

marked_so : (sheet : List ℕ) → pointwise eqb (65 ∷ 82 ∷ 78 ∷ []) (take 3 sheet) ≡ marked sheet
unfolding marked
marked_so [] = refl
marked_so (a ∷ []) = rw (turned 65 a) (unended (eqb a 65) false)
marked_so (a ∷ b ∷ []) = rw (turned 65 a, turned 82 b) (unended (eqb a 65) (eqb b 82))
marked_so (a ∷ b ∷ c ∷ rest) = rw (turned 65 a, turned 82 b, turned 78 c) (grouped (eqb a 65) (eqb b 82) (eqb c 78))

pub returns : goal.returns
returns c = c.starts_with.ensures.value ∙ marked_so c.args.sheet.now
