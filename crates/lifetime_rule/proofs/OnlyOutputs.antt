-- Laws of the definitions of specs/OnlyOutputs.antt.
use Rattle.std.specs.Prelude.{ℕ, ◌<◌, ◌≤◌, List, ◌≡◌, ℤ, pos}
use Rattle.std.proofs.Common.{⊎_elim, sym, ◌∙◌}
use Rattle.std.proofs.Math.Path.{ap}
use native.Mathlib.Omega.{arith}
use Rattle.answer.specs.Answer.{refused_at, tensor_never_named}
use Rattle.bounded.proofs.Boolean.{lt_or_le}
use Rattle.words.specs.Words.{natural}
use Rattle.lifetime_rule.specs.Answers.{Sized}
use Rattle.lifetime_rule.specs.FromUses.{lifetimes_of}
use Rattle.lifetime_rule.specs.GoodUses.{GoodUse}
use Rattle.lifetime_rule.specs.Naming.{Names, by_reading, by_writing, as_input}
use Rattle.lifetime_rule.proofs.Outcomes.{OutOfLimits, many_uses, many_operators, many_tensors, no_operator, NeverNamed, Outcome, not_whole, out_of_limits_case, too_short, bad_use_case, never_named, too_early_case, done, outcome}
use Rattle.lifetime_rule.specs.Uses.{model_output, count, word}
use Rattle.lifetime_rule.specs.OnlyOutputs.{OnlyOutput}

module _ (operators tensors : ℕ) (u : List ℤ) (room t : ℕ) (only : OnlyOutput u t) where
  -- No use of the tensor has a lower role,
  no_other : {r k : ℕ} → k < count u → word u k 2 ≡ pos r → word u k 1 ≡ pos t → r < model_output → ⊥
  unfolding natural
  no_other {r} {k} l e w h = let same : r ≡ model_output = ap natural (sym e ∙ only k l w) in omega arith

  -- and each that names it would.
  no_name : (m k : ℕ) → k < count u → Names u t m k → ⊥
  no_name m k l (by_reading r w o) = no_other l r w (omega arith)
  no_name m k l (by_writing r w o) = no_other l r w (omega arith)
  no_name m k l (as_input r w z) = no_other l r w (omega arith)

  -- So no operator names the tensor.
  pub only_output_unnamed : NeverNamed operators tensors u room t
  only_output_unnamed m l n = no_name m n.which n.within n.so

  -- Number 20, for this tensor or a lower one.
  pub record Refused20 : Type 0 where
    pub tensor : ℕ
    pub no_higher : tensor ≤ t
    pub answer : lifetimes_of operators tensors u room ≡ refused_at tensor_never_named tensor

  -- A list of good uses within the limits is refused so.
  pub only_output_refused : Sized operators tensors u room → ((k : ℕ) → k < count u → GoodUse operators tensors u k) → t < tensors → Refused20
  only_output_refused z good l = go (outcome operators tensors u room)
    where
      go : Outcome operators tensors u room → Refused20
      go (not_whole f e) = absurd (f z.whole)
      go (out_of_limits_case w x e) = absurd (within x)
        where
          within : OutOfLimits operators tensors u room → ⊥
          within (many_uses h) = omega (arith, z.few_uses)
          within (many_operators h) = omega (arith, z.few_operators)
          within (many_tensors h) = omega (arith, z.few_tensors)
          within (no_operator h) = omega (arith, z.some_operator)
      go (too_short w f h e) = absurd (omega (arith, z.roomy))
      go (bad_use_case a s low e) = absurd (low.here (good a low.within))
      go (never_named a s g low e) =
          record { tensor = a; no_higher = ⊎_elim (λ h. absurd (low.below t h only_output_unnamed)) (λ h. h) (lt_or_le t a); answer = e }
      go (too_early_case a s g all low e) = absurd (all t l only_output_unnamed)
      go (done s g all none e) = absurd (all t l only_output_unnamed)
