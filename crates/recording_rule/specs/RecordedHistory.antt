-- Histories "where every keep in the history went through the ledger": an accepted opening and a ledger of zeros, then any operations with any arguments,
-- refused ones among them, each on the sections and the ledger that the one before handed back. What was kept, as which kind, is worked out here from the
-- operations and their answers, and from no state and no ledger.
use Rattle.std.specs.Prelude.{ℕ, ◌+◌, true, false, eqb, length}
use mathlib.Core.List.{List, [], ◌∷◌, map, sum}
use Rattle.answer.specs.Answer.{done}
use Rattle.answer.specs.declared.Answer.{Answer}
use Rattle.arena_sections.specs.History.{Operation, Kept, Held, Event, outcome_of, used, tail_by, held_after, nothing_held, opened}
use Rattle.arena_sections.specs.History.Operation.{allocate_persistent, allocate_temp, reset_temp, set_head}
use Rattle.arena_sections.specs.Sections.{gap_below}
use Rattle.arena_sections.specs.declared.Outcome.{Outcome}
use Rattle.arena_sections.specs.declared.Sections.{Sections}
use Rattle.recording_rule.specs.Ledger.{empty_ledger}
use Rattle.recording_rule.specs.Recording.{recording_of}
use Rattle.recording_rule.specs.declared.Ledger.{Ledger}
use Rattle.recording_rule.specs.declared.RecordedAllocation.{RecordedAllocation}
use Rattle.recording_rule.specs.declared.Recording.{Recording}

-- ---- operations, and what comes of them

-- An operation with its arguments: of a keep its kind, size and alignment, of a borrow size and alignment, the head's length.
pub data RecordedOperation : Type 0 where
  record_persistent : ℕ → ℕ → ℕ → RecordedOperation
  allocate_temporary : ℕ → ℕ → RecordedOperation
  reset_temporaries : RecordedOperation
  set_head_length : ℕ → RecordedOperation

-- The sections' own operation.
abbrev pub own_operation : RecordedOperation → Operation
own_operation (record_persistent kind size alignment) = allocate_persistent size alignment
own_operation (allocate_temporary size alignment) = allocate_temp size alignment
own_operation reset_temporaries = reset_temp
own_operation (set_head_length length) = set_head length

-- What an operation of the sections comes to beside a ledger, which it leaves as it is.
abbrev pub beside : Ledger → Outcome → Recording
beside l o = record { answer = o.answer; sections = o.sections; ledger = l }

-- What the operation answers and hands back.
abbrev pub recording_by : ℕ → Sections → Ledger → RecordedOperation → Recording
recording_by g s l (record_persistent kind size alignment) = recording_of g s l kind size alignment
recording_by g s l (allocate_temporary size alignment) = beside l (outcome_of g s (allocate_temp size alignment))
recording_by g s l reset_temporaries = beside l (outcome_of g s reset_temp)
recording_by g s l (set_head_length length) = beside l (outcome_of g s (set_head length))

-- Sections and ledger.
pub record Audited : Type 0 where
  pub sections : Sections
  pub ledger : Ledger

-- What an operation hands back of them.
abbrev pub handed_back : ℕ → Audited → RecordedOperation → Audited
handed_back g x op =
    record { sections = (recording_by g x.sections x.ledger op).sections; ledger = (recording_by g x.sections x.ledger op).ledger }

-- Both after all operations of a list.
unfoldable pub audited_after : ℕ → Audited → List RecordedOperation → Audited
audited_after g x [] = x
audited_after g x (op ∷ ops) = audited_after g (handed_back g x op) ops

-- An operation and its answer: what an auditor sees.
pub record RecordedEvent : Type 0 where
  pub operation : RecordedOperation
  pub answer : Answer

-- The event of an operation.
abbrev pub event_of : ℕ → Audited → RecordedOperation → RecordedEvent
event_of g x op = record { operation = op; answer = (recording_by g x.sections x.ledger op).answer }

-- The events of a list of operations.
unfoldable pub recorded_events : ℕ → Audited → List RecordedOperation → List RecordedEvent
recorded_events g x [] = []
recorded_events g x (op ∷ ops) = event_of g x op ∷ recorded_events g (handed_back g x op) ops

-- ---- what was kept

-- An accepted keep: the kind that it was recorded as, its span and its gap.
pub record Keep : Type 0 where
  pub kind : ℕ
  pub kept : Kept

-- The kept spans alone.
abbrev pub kept_spans : List Keep → List Kept
kept_spans keeps = map (λ (k : Keep). k.kept) keeps

-- What is kept after an accepted operation, by the start that it answered, the newest first: "the gap being (tail before − size) mod alignment".
abbrev pub keeps_by : ℕ → List Keep → RecordedOperation → ℕ → List Keep
keeps_by usable keeps (record_persistent kind size alignment) start =
    record {
      kind = kind;
      kept = record { span = record { start = start; size = size }; gap = gap_below (tail_by usable (kept_spans keeps)) size alignment };
    }
    ∷ keeps
keeps_by usable keeps (allocate_temporary size alignment) start = keeps
keeps_by usable keeps reset_temporaries start = keeps
keeps_by usable keeps (set_head_length length) start = keeps

-- What is kept after an event: a refusal keeps nothing.
abbrev pub keeps_with : ℕ → List Keep → RecordedEvent → List Keep
keeps_with usable keeps e = elim (eqb e.answer.number done) [ true ↦ keeps_by usable keeps e.operation e.answer.a | false ↦ keeps ]

-- The accepted keeps of events, after others.
unfoldable pub keeps_after : ℕ → List Keep → List RecordedEvent → List Keep
keeps_after usable keeps [] = keeps
keeps_after usable keeps (e ∷ es) = keeps_after usable (keeps_with usable keeps e) es

-- The spans that were kept as a kind.
unfoldable pub kept_as : ℕ → List Keep → List Kept
kept_as kind [] = []
kept_as kind (k ∷ ks) = elim (eqb k.kind kind) [ true ↦ k.kept ∷ kept_as kind ks | false ↦ kept_as kind ks ]

-- The three numbers of kept spans: the sum of their sizes, the sum of their sizes and gaps, and how many they are.
abbrev pub numbers_of : List Kept → RecordedAllocation
numbers_of ks = record { requested = sum ◌+◌ 0 (map (λ (k : Kept). k.span.size) ks); used = used ks; count = length ks }

-- ---- from an opening on

-- What an opening hands back, with a ledger of zeros.
abbrev pub opened_audit : ℕ → ℕ → ℕ → Audited
opened_audit g start length = record { sections = opened g start length; ledger = empty_ledger }

-- Sections and ledger after an opening and operations.
abbrev pub audited : ℕ → ℕ → ℕ → List RecordedOperation → Audited
audited g start length ops = audited_after g (opened_audit g start length) ops

-- The events of that history.
abbrev pub history_of : ℕ → ℕ → ℕ → List RecordedOperation → List RecordedEvent
history_of g start length ops = recorded_events g (opened_audit g start length) ops

-- Its accepted keeps, the newest first.
abbrev pub keeps_of : ℕ → ℕ → ℕ → List RecordedOperation → List Keep
keeps_of g start length ops = keeps_after (opened g start length).usable [] (history_of g start length ops)

-- The event as the sections' own history has it.
abbrev pub own_event : RecordedEvent → Event
own_event e = record { operation = own_operation e.operation; answer = e.answer }

-- What is held after that history, by document 01's account.
abbrev pub held_by : ℕ → ℕ → ℕ → List RecordedOperation → Held
held_by g start length ops = held_after (opened g start length).usable nothing_held (map own_event (history_of g start length ops))
