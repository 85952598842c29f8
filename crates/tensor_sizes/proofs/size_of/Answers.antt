-- `tensor_sizes::size_of` meets its contract: what the capped count passes or reaches, the whole count does.
use Prim.Native.Nat.{ℕ, ◌+◌, ◌*◌, ◌<◌, min}
use mathlib.Core.Path.{◌≡◌, sym, ◌∙◌, ap}
use borrow.Author.Tests.{lt-ltb, le-ltb}
use lib.Dec.{ltb}
use Rattle.answer.specs.Answer.{done_with}
use Rattle.answer.specs.Refusals.{told}
use Rattle.bounded.proofs.Causes.{given, next, none_left}
use Rattle.request_table.specs.Limits.{greatest_space}
use Rattle.tensor_sizes.proofs.Capped.{capped_is, capped_test}
use Rattle.tensor_sizes.proofs.SizeLaws.{elements_given, negative_told}
use Rattle.tensor_sizes.proofs.size_of.Goals as goal

-- the test of the size is that of the whole count
tested : (e b : ℕ) {r : ℕ} → 0 < b → r ≡ min e (greatest_space + 1) → ltb greatest_space (e * b) ≡ ltb greatest_space (r * b)
tested e b some is = sym (capped_test greatest_space e b some) ∙ sym (ap (λ (n : ℕ). ltb greatest_space (n * b)) is)

pub returns-then-negative : goal.returns-then-negative
returns-then-negative c = ap told c.of.ensures ∙ negative_told _ _ (sym c.has_negative-negative.ensures ∙ c.if-negative.true)

pub returns-then-too_large : goal.returns-then-too_large
returns-then-too_large c =
    ap told c.of-then-too_large.ensures
    ∙ elements_given _ _ (next (sym c.has_negative-negative.ensures ∙ c.if-negative.false) (given (tested _ _ c.requires.0 c.elements.ensures ∙ lt-ltb _ _ c.if-too_large.true)))

pub returns : goal.returns
returns c =
    let small = le-ltb greatest_space (c.elements.result * c.args.bytes) c.if-too_large.false in
    let within = rw c.elements.ensures at c.if-too_large.false in
    let whole = ap (λ (n : ℕ). n * c.args.bytes) c.elements.ensures ∙ capped_is greatest_space _ _ c.requires.0 within in
    ap done_with whole
    ∙ elements_given _ _ (next (sym c.has_negative-negative.ensures ∙ c.if-negative.false) (next (tested _ _ c.requires.0 c.elements.ensures ∙ small) none_left))
