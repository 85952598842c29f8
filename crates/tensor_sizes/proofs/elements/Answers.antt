-- `tensor_sizes::elements` meets its contract: the dimensions so far are counted, up to the cap.
use Prim.Native.Nat.{ℕ, ◌+◌, ◌*◌, min}
use Rattle.std.specs.Prelude.{◌≡◌, List, ◌++◌, ◌∷◌, [], ℤ}
use Rattle.std.proofs.Common.{sym, ◌∙◌, ap, rules, subst}
use Rattle.std.proofs.lemmas.Fn.{fold_over, slice_gives, fronts}
use Rattle.request_table.specs.Limits.{greatest_space}
use Rattle.words.specs.Words.{natural}
use Rattle.tensor_sizes.specs.ByteSize.{elements as elements_of}
use Rattle.tensor_sizes.proofs.Capped.{capped_more}
use Rattle.tensor_sizes.proofs.SizeLaws.{no_elements, elements_behind}
use Rattle.tensor_sizes.proofs.elements.Goals as goal

-- one dimension more
counted : (shape : List ℤ) (z : ℤ) {count more : ℕ} → count ≡ min (elements_of shape) (greatest_space + 1) → more ≡ min (count * natural z) (greatest_space + 1)
    → more ≡ min (elements_of (shape ++ (z ∷ []))) (greatest_space + 1)
counted shape z e f =
    f
    ∙ ap (λ (n : ℕ). min (n * natural z) (greatest_space + 1)) e
    ∙ capped_more _ _ _
    ∙ ap (λ (n : ℕ). min n (greatest_space + 1)) (sym (elements_behind shape z))

pub returns : goal.returns
returns c =
    subst (λ l. c.fold.result ≡ min (elements_of l) (greatest_space + 1)) c.iter.ensures.rest
    (fold_over fronts (λ y. y.now) _ (λ ys n. n ≡ min (elements_of ys) (greatest_space + 1)) _ (λ ys a x b f' j k. let more = counted ys x.now {count = a} {more = b} in search (rules, more))
    _ _ _ _ (slice_gives c.iter.result) (ap (λ (n : ℕ). min n (greatest_space + 1)) (sym no_elements)) c.fold.ensures.ran)
