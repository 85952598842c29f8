-- An entry point's order of checks: a list of causes, each a test with the answer that it gives. The first that holds is given.
-- Generic in the answer; `number` tells a refusal from a done answer, whose number is 0.
use Rattle.std.specs.Prelude.{ℕ, Bool, true, false, List, [], ◌∷◌, ◌≡◌}

-- A cause of refusal, and the answer that it gives.
pub record Cause (A : Type 0) : Type 0 where
  pub holds : Bool
  pub gives : A

-- A cause as it is written in a list.
abbrev pub ◌⇒◌ : {A : Type 0} → Bool → A → Cause A
b ⇒ x = record { holds = b; gives = x }

infix 20 ◌⇒◌
-- The answer of the first cause that holds, else the answer that follows.
abbrev pub first_cause : {A : Type 0} → List (Cause A) → A → A
first_cause [] d = d
first_cause (c ∷ cs) d = elim c.holds [ true ↦ c.gives | false ↦ first_cause cs d ]

-- No cause of the list holds.
abbrev pub NoneHolds : {A : Type 0} → List (Cause A) → Type 0
NoneHolds [] = Unit {0}
NoneHolds (c ∷ cs) = (c.holds ≡ false) × NoneHolds cs

-- It is so of the answer of every cause of the list.
abbrev pub AllGive : {A : Type 0} → (A → Type 0) → List (Cause A) → Type 0
AllGive So [] = Unit {0}
AllGive So (c ∷ cs) = So c.gives × AllGive So cs

-- Every cause of the list gives a refusal.
abbrev pub AllRefuse : {A : Type 0} → (A → ℕ) → List (Cause A) → Type 0
AllRefuse number cs = AllGive (λ a. number a ≡ 0 → ⊥) cs

-- A list gives an answer, as the code comes to it: one test after the other.
pub record Gives {A : Type 0} (cs : List (Cause A)) (d x : A) : Type 0 where
  pub is : x ≡ first_cause cs d
