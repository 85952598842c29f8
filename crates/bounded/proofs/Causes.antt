-- Laws of the definitions of specs/Causes.antt.
use Rattle.std.specs.Prelude.{ℕ, Bool, true, false, List, [], ◌∷◌, ◌++◌, ◌≡◌, refl}
use Rattle.bounded.specs.Causes.{AllGive, AllRefuse, Cause, Gives, NoneHolds, first_cause, ◌⇒◌}

module _ {A : Type 0} {cs : List (Cause A)} {d : A} {b : Bool} {x : A} where
  -- The first cause holds: its answer is given.
  pub given : b ≡ true → Gives ((b ⇒ x) ∷ cs) d x
  given e = record { is = rw (e, first_cause) }

  -- It does not: the rest of the list decides.
  pub next : {y : A} → b ≡ false → Gives cs d y → Gives ((b ⇒ x) ∷ cs) d y
  next e g = record { is = rw (e, first_cause) g.is }

-- No cause is left.
pub none_left : {A : Type 0} {d : A} → Gives [] d d
none_left = record { is = refl }

module _ {A : Type 0} where
  -- No cause holds: what follows is the answer.
  pub follows : (cs : List (Cause A)) (d : A) → NoneHolds cs → first_cause cs d ≡ d
  follows [] d f = refl
  follows (c ∷ cs) d f = rw (f.0, first_cause) (follows cs d f.1)

  -- No cause of the first list holds: the second decides.
  pub follows_more : (cs ds : List (Cause A)) (d : A) → NoneHolds cs → first_cause (cs ++ ds) d ≡ first_cause ds d
  follows_more [] ds d f = refl
  follows_more (c ∷ cs) ds d f = rw (f.0, first_cause) (follows_more cs ds d f.1)

module _ {A : Type 0} (number : A → ℕ) where
  -- A refusal of the first list stands, whatever follows.
  pub refused_stands : (cs ds : List (Cause A)) (d e : A) → number d ≡ 0 → (number (first_cause cs d) ≡ 0 → ⊥) → first_cause cs d ≡ first_cause (cs ++ ds) e
  refused_stands [] ds d e z r = absurd (r z)
  refused_stands (c ∷ cs) ds d e z r = go c.holds refl r (λ h. refused_stands cs ds d e z h)
    where
      go : (b : Bool) → c.holds ≡ b → (number (elim b [ true ↦ c.gives | false ↦ first_cause cs d ]) ≡ 0 → ⊥)
          → ((number (first_cause cs d) ≡ 0 → ⊥) → first_cause cs d ≡ first_cause (cs ++ ds) e)
          → ◌≡◌ {A = A} (elim b [ true ↦ c.gives | false ↦ first_cause cs d ]) (elim b [ true ↦ c.gives | false ↦ first_cause (cs ++ ds) e ])
      go true q h k = refl
      go false q h k = k h

  -- Answer 0 comes exactly when no cause holds and what follows is answer 0 itself.
  pub passed : (cs : List (Cause A)) (d : A) → AllRefuse number cs → number (first_cause cs d) ≡ 0 → NoneHolds cs × (number d ≡ 0)
  passed [] d f e = (tt, e)
  passed (c ∷ cs) d f e = go c.holds refl e (λ h. passed cs d f.1 h)
    where
      go : (b : Bool) → c.holds ≡ b → number (elim b [ true ↦ c.gives | false ↦ first_cause cs d ]) ≡ 0
          → (number (first_cause cs d) ≡ 0 → NoneHolds cs × (number d ≡ 0)) → NoneHolds (c ∷ cs) × (number d ≡ 0)
      go true q h k = absurd (f.0 h)
      go false q h k = ((q, (k h).0), (k h).1)

module _ {A : Type 0} where
  -- What is so of every cause's answer, and of what follows where no cause holds, is so of the answer.
  pub by_causes : (So : A → Type 0) (cs : List (Cause A)) (d : A) → AllGive So cs → (NoneHolds cs → So d) → So (first_cause cs d)
  by_causes So [] d f e = e tt
  by_causes So (c ∷ cs) d f e = go c.holds refl (by_causes So cs d f.1)
    where
      go : (b : Bool) → c.holds ≡ b → ((NoneHolds cs → So d) → So (first_cause cs d)) → So (elim b [ true ↦ c.gives | false ↦ first_cause cs d ])
      go true q k = f.0
      go false q k = k (λ n. e (q, n))
