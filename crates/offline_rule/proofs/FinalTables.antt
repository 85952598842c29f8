-- Laws of the definitions of specs/FinalTables.antt.
use Rattle.std.specs.Prelude.{ℕ, zero, suc, ◌≤◌, List, ◌≡◌, ℤ, pos, length}
use Rattle.std.proofs.Common.{inr, ◌∙◌, ap, arith}
use Rattle.bounded.proofs.Front.{front_length, front_at, front_past}
use Rattle.request_table.specs.Limits.{greatest_rows}
use Rattle.word_bytes.specs.Bytes.{word_of}
use Rattle.word_lists.specs.WordLists.{words_from, with_words}
use Rattle.word_lists.specs.WordsComeBack.{AllFit}
use Rattle.word_lists.proofs.WordsComeBack.{words_length, words_at, put_length, put_elsewhere, word_put}
use Rattle.offline_rule.specs.OfflinePlan.{plan_words, offsets_place, read_of, offsets_read, write_of, bytes_written}
use Rattle.offline_rule.proofs.Answers.{read_says, done_read, write_says, done_written}
use Rattle.offline_rule.specs.FinalTables.{LeftByReading, LeftByWriting}

-- So reading leaves it.
pub left_by_reading : (bytes : List ℕ) (tensors : ℕ) (offsets : List ℤ) → (read_of bytes tensors (length offsets)).number ≡ 0
    → LeftByReading bytes tensors offsets (offsets_read bytes tensors offsets)
left_by_reading bytes tensors offsets z =
    let r = read_says bytes tensors (length offsets) z in
    let long = words_length bytes offsets_place tensors in
    rw (done_read bytes tensors offsets z)
    record {
      as_long = front_length (words_from bytes offsets_place tensors) offsets long r.roomy;
      each = λ i l. front_at (words_from bytes offsets_place tensors) offsets long (pos 0) i l ∙ words_at bytes offsets_place tensors i l;
      rest = λ i l. front_past (words_from bytes offsets_place tensors) offsets long (pos 0) i l;
    }

-- Every word of a plan is one of 32 bits, where the offsets are and are not too many.
pub words_fit : (offsets : List ℤ) → AllFit offsets → length offsets ≤ greatest_rows → AllFit (plan_words offsets)
words_fit offsets fit few zero h = omega arith
words_fit offsets fit few (suc zero) h = omega arith
words_fit offsets fit few (suc (suc zero)) h = omega arith
words_fit offsets fit few (suc (suc (suc k))) h = fit k (omega arith)

-- So writing leaves them.
pub left_by_writing : (offsets : List ℤ) (bytes : List ℕ) → AllFit offsets → (write_of offsets (length bytes)).number ≡ 0
    → LeftByWriting offsets bytes (bytes_written offsets bytes)
left_by_writing offsets bytes fit z =
    let w = write_says offsets (length bytes) z in
    let put = word_put bytes 0 (plan_words offsets) (words_fit offsets fit w.few) (omega (arith, w.roomy)) in
    rw (done_written offsets bytes z)
    record {
      as_long = put_length bytes 0 (plan_words offsets);
      version = put 0 (omega arith);
      subgraphs = put 1 (omega arith);
      count = put 2 (omega arith);
      each = λ i l. ap (word_of (with_words bytes 0 (plan_words offsets))) (omega arith) ∙ put (suc (suc (suc i))) (omega arith);
      rest = λ i l. put_elsewhere bytes 0 i (plan_words offsets) (inr (omega arith));
    }
