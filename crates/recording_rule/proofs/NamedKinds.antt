-- Laws of the definitions of specs/Kinds.antt.
use Rattle.std.specs.Prelude.{ℕ, zero, suc, ◌<◌, ◌≡◌, refl}
use Rattle.std.proofs.Common.{arith}
use Rattle.recording_rule.specs.Ledger.{kind_count}
use Rattle.recording_rule.specs.Kinds.{Named, code_of}
use Rattle.recording_rule.specs.declared.Kind.{Kind}
use Rattle.recording_rule.specs.declared.Kind.TheVariants.{TfliteEvalTensorData, PersistentTfliteTensorData, PersistentTfliteTensorQuantizationData, TfliteTensorVariableBufferData, NodeAndRegistrationStruct, OperatorRuntimeData}

-- Every code below the number of kinds is one,
pub named_of : (code : ℕ) → code < kind_count → Named code
named_of zero h = record { kind = TfliteEvalTensorData; is = refl }
named_of (suc zero) h = record { kind = PersistentTfliteTensorData; is = refl }
named_of (suc (suc zero)) h = record { kind = PersistentTfliteTensorQuantizationData; is = refl }
named_of (suc (suc (suc zero))) h = record { kind = TfliteTensorVariableBufferData; is = refl }
named_of (suc (suc (suc (suc zero)))) h = record { kind = NodeAndRegistrationStruct; is = refl }
named_of (suc (suc (suc (suc (suc zero))))) h = record { kind = OperatorRuntimeData; is = refl }
named_of (suc (suc (suc (suc (suc (suc code)))))) h = absurd (omega arith)

code_below : (kind : Kind) → code_of kind < kind_count
code_below TfliteEvalTensorData = omega arith
code_below PersistentTfliteTensorData = omega arith
code_below PersistentTfliteTensorQuantizationData = omega arith
code_below TfliteTensorVariableBufferData = omega arith
code_below NodeAndRegistrationStruct = omega arith
code_below OperatorRuntimeData = omega arith

-- and no other.
pub named_says : (code : ℕ) → Named code → code < kind_count
named_says code n = omega (arith, code_below n.kind, n.is)

-- A code that a kind has is below their number.
pub code_named : (code : ℕ) (kind : Kind) → code_of kind ≡ code → code < kind_count
code_named code kind e = omega (arith, code_below kind, e)
