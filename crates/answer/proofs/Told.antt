-- Laws of refusals as answers.
use Rattle.std.specs.Prelude.{ℕ, cond, ◌==◌, ◌≡◌, refl}
use Rattle.std.proofs.Common.{sym, ◌∙◌, ap}
use Rattle.answer.specs.declared.Answer.{Answer}
use Rattle.answer.specs.declared.Cause.{Cause}
use Rattle.answer.specs.declared.Cause.TheVariants.{NotWholeRows, TooMany, TableTooShort, SpaceTooLarge, BadRow, FixedRowsCollide, NeedExceedsSpace, FixedRowMoved, BadOffset, RowsCollide, BadAccess, ArenaTooShort, SectionsNotValid, BadAlignment, NoRoom, TemporariesOut, HeadMadeSmaller, WrongLength, OtherTensorCount, TensorNeverNamed, ReadBeforeWritten, BadTypeCode, BadAllocationKind}
use Rattle.answer.specs.declared.Refusal.{Refusal}
use Rattle.answer.specs.Answer.{number_of, done}
use Rattle.answer.specs.Refusals.{number_of_cause, told}

-- The number of a refusal is never that of an answer that is done,
pub cause_tells : (cause : Cause) → number_of_cause cause ≡ done → ⊥
cause_tells NotWholeRows e = cc
cause_tells TooMany e = cc
cause_tells TableTooShort e = cc
cause_tells SpaceTooLarge e = cc
cause_tells BadRow e = cc
cause_tells FixedRowsCollide e = cc
cause_tells NeedExceedsSpace e = cc
cause_tells FixedRowMoved e = cc
cause_tells BadOffset e = cc
cause_tells RowsCollide e = cc
cause_tells BadAccess e = cc
cause_tells ArenaTooShort e = cc
cause_tells SectionsNotValid e = cc
cause_tells BadAlignment e = cc
cause_tells NoRoom e = cc
cause_tells TemporariesOut e = cc
cause_tells HeadMadeSmaller e = cc
cause_tells WrongLength e = cc
cause_tells OtherTensorCount e = cc
cause_tells TensorNeverNamed e = cc
cause_tells ReadBeforeWritten e = cc
cause_tells BadTypeCode e = cc
cause_tells BadAllocationKind e = cc

pub refusal_tells : (r : Refusal) → (told r).number ≡ done → ⊥
refusal_tells r e = cause_tells r.cause e

-- so that an answer that a refusal tells is none that is done.
pub refusal_refuses : (r : Refusal) {x : Answer} → told r ≡ x → number_of x ≡ done → ⊥
refusal_refuses r e d = refusal_tells r (ap number_of e ∙ d)

-- The cause that has a number; past the list it is the last.
cause_of : ℕ → Cause
cause_of k =
    cond (k == 1) NotWholeRows (
    cond (k == 2) TooMany (
    cond (k == 3) TableTooShort (
    cond (k == 4) SpaceTooLarge (
    cond (k == 5) BadRow (
    cond (k == 6) FixedRowsCollide (
    cond (k == 7) NeedExceedsSpace (
    cond (k == 8) FixedRowMoved (
    cond (k == 9) BadOffset (
    cond (k == 10) RowsCollide (
    cond (k == 11) BadAccess (
    cond (k == 12) ArenaTooShort (
    cond (k == 13) SectionsNotValid (
    cond (k == 14) BadAlignment (
    cond (k == 15) NoRoom (
    cond (k == 16) TemporariesOut (
    cond (k == 17) HeadMadeSmaller (
    cond (k == 18) WrongLength (
    cond (k == 19) OtherTensorCount (
    cond (k == 20) TensorNeverNamed (
    cond (k == 21) ReadBeforeWritten (
    cond (k == 24) BadTypeCode BadAllocationKind)))))))))))))))))))))

-- A cause's number leads back to the cause.
cause_back : (cause : Cause) → cause_of (number_of_cause cause) ≡ cause
unfolding cause_of
cause_back NotWholeRows = refl
cause_back TooMany = refl
cause_back TableTooShort = refl
cause_back SpaceTooLarge = refl
cause_back BadRow = refl
cause_back FixedRowsCollide = refl
cause_back NeedExceedsSpace = refl
cause_back FixedRowMoved = refl
cause_back BadOffset = refl
cause_back RowsCollide = refl
cause_back BadAccess = refl
cause_back ArenaTooShort = refl
cause_back SectionsNotValid = refl
cause_back BadAlignment = refl
cause_back NoRoom = refl
cause_back TemporariesOut = refl
cause_back HeadMadeSmaller = refl
cause_back WrongLength = refl
cause_back OtherTensorCount = refl
cause_back TensorNeverNamed = refl
cause_back ReadBeforeWritten = refl
cause_back BadTypeCode = refl
cause_back BadAllocationKind = refl

-- No two causes have one number, so that an answer tells which cause it was.
pub causes_apart : (one other : Cause) → number_of_cause one ≡ number_of_cause other → one ≡ other
causes_apart one other e = sym (cause_back one) ∙ ap cause_of e ∙ cause_back other
