-- Document 004's six recorded kinds, "Codes are 0 to 5 in that order", by the names that TensorFlow Lite Micro prints.
use Rattle.std.specs.Prelude.{ℕ, ◌≤◌, ◌≡◌, Result, MatchResult}
use Rattle.answer.specs.declared.Cause.{Cause}
use Rattle.answer.specs.declared.Cause.TheVariants.{BadAllocationKind}
use Rattle.recording_rule.specs.Ledger.{kind_count}
use Rattle.recording_rule.specs.declared.Kind.{Kind}
use Rattle.recording_rule.specs.declared.Kind.TheVariants.{TfliteEvalTensorData, PersistentTfliteTensorData, PersistentTfliteTensorQuantizationData, TfliteTensorVariableBufferData, NodeAndRegistrationStruct, OperatorRuntimeData}

-- The code of each.
abbrev pub code_of : Kind → ℕ
code_of TfliteEvalTensorData = 0
code_of PersistentTfliteTensorData = 1
code_of PersistentTfliteTensorQuantizationData = 2
code_of TfliteTensorVariableBufferData = 3
code_of NodeAndRegistrationStruct = 4
code_of OperatorRuntimeData = 5

-- A code that is some kind's.
pub record Named (code : ℕ) : Type 0 where
  pub kind : Kind
  pub is : code_of kind ≡ code

-- What a code names: the kind that has it, or, past the codes, none, which is number 25.
abbrev pub Names : ℕ → Result Kind Cause → Type 0
Names code r = MatchResult r (λ kind. code_of kind ≡ code) (λ cause. (cause ≡ BadAllocationKind) × (kind_count ≤ code))
