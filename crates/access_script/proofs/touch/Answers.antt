-- `access_script::touch` meets its contract.
use Rattle.std.proofs.Common.{◌∙◌, ap, ap₂}
use Rattle.std.specs.Prelude.{ℕ, get_or, set}
use Rattle.access_rule.proofs.RunLaws.{read_leaves, read_answers, write_sets, write_answers}
use Rattle.access_script.proofs.Performing.{byte_is, none_reads, some_writes}
use Rattle.access_script.proofs.touch.Goals as goal

-- the place that is worked out is the touch's byte, which lies within the arena
pub bounds-arena-place : goal.bounds-arena-place
bounds-arena-place c = rw (byte_is c.args.offsets.now c.args.access c.proposed_at-offset.ensures.offset) c.requires.access_in_bounds

pub bounds-arena-place-2 : goal.bounds-arena-place-2
bounds-arena-place-2 c = rw (byte_is c.args.offsets.now c.args.access c.proposed_at-offset.ensures.offset) c.requires.access_in_bounds

pub returns-in_default : goal.returns-in_default
returns-in_default c =
    let place = byte_is c.args.offsets.now c.args.access c.proposed_at-offset.ensures.offset in
    let reads = none_reads c.args.access c.in_default.is in
    record {
      arena = read_leaves _ _ _ reads;
      byte = ap (λ (n : ℕ). get_or c.args.arena.now n 0) place ∙ read_answers _ _ _ reads;
    }

pub returns : goal.returns
returns c =
    let place = byte_is c.args.offsets.now c.args.access c.proposed_at-offset.ensures.offset in
    let writes = some_writes c.args.access c.in-Some.is in
    record {
      arena = ap₂ (λ (n v : ℕ). set c.args.arena.now n v) place writes.1 ∙ write_sets _ _ _ writes.0;
      byte = writes.1 ∙ write_answers _ _ _ writes.0;
    }
