-- An example of the law, by which its premises are seen to hold together: the least model whose early output could be planned over. Operator 0 writes
-- tensor 0, a model output, which no operator names again; operator 1 writes tensor 1. At the last moment the output is read, and its byte is the one that
-- operator 0 wrote.
use Rattle.std.specs.Prelude.{ℕ, zero, suc, ◌*◌, ◌+◌, ◌<◌, ◌≤◌, true, ◌≡◌, refl, length, get_or}
use Rattle.std.proofs.Common.{inl, inr, ap, arith, leb-true}
use Rattle.std.specs.Int.Signed.{le_z_yes, lt_z_yes}
use Rattle.alignment.specs.Rounding.{rounded_up}
use Rattle.bounded.specs.First.{first_from, first_in, holds_below}
use Rattle.bounded.specs.Greatest.{greatest}
use Rattle.bounded.specs.Last.{last_in}
use Rattle.bounded.specs.Pair.{partner, has_partner, pair_below, pair_first, pair_second}
use Rattle.bounded.specs.Replaced.{replaced}
use Rattle.bounded.specs.TwoEach.{two_each}
use Rattle.words.specs.Words.{natural, is_minus_one, word_at}
use Rattle.request_table.specs.Buffers.{live_together, share_byte, collides, end_or_zero, need}
use Rattle.request_table.specs.GoodRows.{GoodRow}
use Rattle.request_table.specs.Limits.{grid, greatest_rows}
use Rattle.request_table.specs.Table.{rows, word, request, good}
use Rattle.inspection_rule.proofs.ExactRule.{passed_says, passed_acceptable}
use Rattle.inspection_rule.specs.Inspect.{moved, off_grid, proposed_need, inspect_of}
use Rattle.lifetime_rule.specs.FromUses.{out_of_limits, lifetimes_of, final_lifetimes}
use Rattle.lifetime_rule.specs.Lifetimes.{names, named, gives_out, is_output, first_of, last_of, unnamed, lets, readable, too_early}
use Rattle.lifetime_rule.specs.Uses.{use_at, good as good_use}
use Rattle.access_rule.specs.Accesses.{greatest_accesses, count, access, moment_before, reaches, good as good_access}
use Rattle.access_rule.specs.Demand3.{Writes, SameByte, Lent}
use Rattle.access_rule.specs.GoodScripts.{GoodAccess}
use Rattle.access_rule.proofs.GoodScripts.{access_says}
use Rattle.access_rule.specs.Script.{final_bytes}
use Rattle.model_outputs.specs.OutputsRead.{FromLifetimes, ReadsOutput, GoodOrReads}
use Rattle.model_outputs.proofs.OutputsRead.{outputs_read_at_grid}
use Rattle.model_outputs.specs.OutputsExample.{uses, lifetimes, table, offsets, script, arena, bytes}

-- The table has the lives of the uses.
from_lifetimes : FromLifetimes 2 2 uses lifetimes table
unfolding first_from first_in holds_below last_in replaced two_each natural use_at good_use names named gives_out is_output first_of last_of unnamed lets readable too_early out_of_limits lifetimes_of final_lifetimes
from_lifetimes =
    record {
      done = refl;
      row_each = leb-true 2 (rows table) refl;
      first_moments = λ r l. (moments r l).0;
      last_moments = λ r l. (moments r l).1;
      others = λ r l m. absurd (omega arith);
    }
  where
    moments : (r : ℕ) → r < 2
        → (word table r 1 ≡ word_at (final_lifetimes 2 2 uses lifetimes) (r * 2)) × (word table r 2 ≡ word_at (final_lifetimes 2 2 uses lifetimes) (r * 2 + 1))
    moments zero l = (refl, refl)
    moments (suc zero) l = (refl, refl)
    moments (suc (suc r)) l = absurd (omega arith)

-- The inspector accepts the plan, and arena and bytes are long enough.
lent : Lent grid table 32 offsets script arena bytes
unfolding first_from first_in holds_below greatest partner has_partner pair_below pair_first pair_second natural is_minus_one rounded_up live_together share_byte collides end_or_zero need request good moved off_grid proposed_need inspect_of
lent =
    record {
      accepted = refl;
      long_enough = leb-true 32 (length arena) refl;
      whole = refl;
      few = leb-true (count script) greatest_accesses refl;
      room = leb-true (count script) (length bytes) refl;
    }

passes : (k : ℕ) → k < 2 → good_access table script k ≡ true
unfolding natural is_minus_one request access moment_before reaches good_access
passes zero l = refl
passes (suc zero) l = refl
passes (suc (suc k)) l = absurd (omega arith)

-- The first two touches are good,
good_before : (k : ℕ) → k < 2 → GoodAccess table script k
good_before k l = access_says grid table script each few k (λ i m. passes i (omega arith)) (passes k l)
  where
    each : (r : ℕ) → r < rows table → GoodRow grid table r
    each = (passed_acceptable grid table 32 offsets (omega arith) (passed_says grid table 32 offsets lent.accepted)).table.each

    few : rows table ≤ greatest_rows
    few = leb-true (rows table) greatest_rows refl

-- and the third reads the output.
read_after : ReadsOutput 2 uses table script 2
read_after =
    record {
      tensor = 0;
      output = record { which = 1; within = leb-true 2 3 refl; so = record { role = refl; tensor = refl } };
      moment = refl;
      row = refl;
      index_from = le_z_yes tt;
      index_below = lt_z_yes tt;
      reads = refl;
    }

good_or_reads : GoodOrReads 2 uses table script
good_or_reads zero m = inl (good_before 0 (omega arith))
good_or_reads (suc zero) m = inl (good_before 1 (omega arith))
good_or_reads (suc (suc zero)) m = inr read_after
good_or_reads (suc (suc (suc k))) m = absurd (omega arith)

-- So the read gives 7, the byte that operator 0 wrote.
pub output_read : get_or (final_bytes grid table 32 offsets script arena bytes) 2 0 ≡ 7
unfolding natural
output_read =
    (outputs_read_at_grid 2 2 uses lifetimes table 32 offsets script arena bytes from_lifetimes lent good_or_reads).last_written 0 2 7 (omega arith) (leb-true 3 3 refl) read_after refl
    record { row = refl; index = refl } between
  where
    between : (i w : ℕ) → 0 < i → i < 2 → Writes script i w → SameByte script i 2 → ⊥
    between zero w l m x same = omega arith
    between (suc zero) w l m x same = let e : ◌≡◌ {A = ℕ} 1 0 = ap natural same.row in omega arith
    between (suc (suc i)) w l m x same = omega arith
