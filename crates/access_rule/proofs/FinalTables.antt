-- Laws of the definitions of specs/FinalTables.antt.
use Rattle.std.specs.Prelude.{ℕ, ◌<◌, List, ℤ, length, get_or}
use Rattle.std.proofs.Common.{sym, ◌∙◌, ap, arith}
use Rattle.answer.specs.Answer.{number_of}
use Rattle.bounded.proofs.Replaced.{replaced_length, replaced_at, replaced_past}
use Rattle.access_rule.specs.Accesses.{count}
use Rattle.access_rule.proofs.Answers.{done_says, done_arena, done_bytes}
use Rattle.access_rule.specs.Demand3.{falls_on, ScriptDone}
use Rattle.access_rule.proofs.Demand3.{falls, writes_of, write_says}
use Rattle.access_rule.proofs.Inside.{inside}
use Rattle.access_rule.proofs.LastWrites.{stands, untouched, write_answer}
use Rattle.access_rule.specs.Run.{answer_byte}
use Rattle.access_rule.proofs.RunLaws.{arena_length}
use Rattle.access_rule.specs.FinalTables.{Left}

module _ (g : ℕ) (t : List ℤ) (space : ℕ) (o s : List ℤ) (arena bytes : List ℕ) (h : 0 < g) (d : ScriptDone g t space o s arena bytes) where
  -- A script that is done leaves this.
  pub left : Left g t space o s arena bytes
  left =
      let z = done_says t o s (length bytes) g space (length arena) (ap number_of d) in
      let a = done_arena g t space o s arena bytes (ap number_of d) in
      let b = done_bytes g t space o s arena bytes (ap number_of d) in
      record {
        arena_long = ap length a ∙ arena_length o s arena (count s);
        bytes_long = ap length b ∙ replaced_length (answer_byte o s arena) (count s) bytes;
        echoed = λ k v m w.
            ap (λ (xs : List ℕ). get_or xs k 0) b
            ∙ replaced_at (answer_byte o s arena) (count s) bytes 0 k m z.sized.roomy
            ∙ write_answer o s arena k (writes_of s k v w).0
            ∙ (writes_of s k v w).1;
        rest = λ k m. ap (λ (xs : List ℕ). get_or xs k 0) b ∙ replaced_past (answer_byte o s arena) (count s) bytes 0 k m;
        written = λ j v m w none.
            ap (λ (xs : List ℕ). get_or xs (falls_on o s j) 0) a
            ∙ stands o s arena (count s) j (falls_on o s j) m (writes_of s j v w).0 (falls o s j)
            (omega (arith, falls o s j, inside g t space o s h z.accepted j (z.all_good j m), z.held_enough))
            (λ i lo hi e q. none i _ lo hi (write_says t s i (z.all_good i hi) e) (sym (falls o s i) ∙ q))
            ∙ (writes_of s j v w).1;
        unwritten = λ x none.
            ap (λ (xs : List ℕ). get_or xs x 0) a
            ∙ untouched o s arena (count s) x (λ i hi e q. none i _ hi (write_says t s i (z.all_good i hi) e) (sym (falls o s i) ∙ q));
      }
