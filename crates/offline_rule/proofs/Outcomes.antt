-- Law: what reading and writing answer, and when, in document 01's words: each number only where no cause before it holds; else done, with all zeros.
use Rattle.std.specs.Prelude.{ℕ, ◌+◌, ◌*◌, ◌<◌, ◌≤◌, Bool, true, false, not, List, ◌⊎◌, ◌≡◌, refl, ℤ, pos, length}
use Rattle.std.proofs.Common.{inl, inr, sym, ap, lt-ltb, le-ltb, eq-eqb, ne_eqb}
use Rattle.answer.specs.Answer.{refused, done_with, too_many, table_too_short, wrong_length, other_tensor_count}
use Rattle.bounded.proofs.Boolean.{contrary, lt_or_le, same_or_not}
use Rattle.bounded.proofs.Causes.{given, next, none_left}
use Rattle.request_table.specs.Limits.{greatest_rows}
use Rattle.word_bytes.specs.Bytes.{word_of}
use Rattle.offline_rule.specs.OfflinePlan.{is_number, read_of, write_of}
use Rattle.offline_rule.proofs.Answers.{number_says, number_of_lem, read_given, write_given}

module _ (bytes : List ℕ) (tensors room : ℕ) where
  -- What reading may answer.
  pub data ReadOutcome : Type 0 where
    no_head : length bytes < 12 → read_of bytes tensors room ≡ refused wrong_length → ReadOutcome
    other_count : 12 ≤ length bytes → (word_of bytes 8 ≡ pos tensors → ⊥) → read_of bytes tensors room ≡ refused other_tensor_count → ReadOutcome
    other_length : 12 ≤ length bytes → word_of bytes 8 ≡ pos tensors → (length bytes ≡ 12 + tensors * 4 → ⊥) → read_of bytes tensors room ≡ refused wrong_length → ReadOutcome
    too_many_case : word_of bytes 8 ≡ pos tensors → length bytes ≡ 12 + tensors * 4 → greatest_rows < tensors → read_of bytes tensors room ≡ refused too_many → ReadOutcome
    too_short : word_of bytes 8 ≡ pos tensors → length bytes ≡ 12 + tensors * 4 → tensors ≤ greatest_rows → room < tensors
        → read_of bytes tensors room ≡ refused table_too_short → ReadOutcome
    done : word_of bytes 8 ≡ pos tensors → length bytes ≡ 12 + tensors * 4 → tensors ≤ greatest_rows → tensors ≤ room → read_of bytes tensors room ≡ done_with 0 → ReadOutcome

  -- So it is answered.
  pub read_outcome : ReadOutcome
  read_outcome = go (lt_or_le (length bytes) 12) (is_number (word_of bytes 8) tensors) refl (same_or_not (length bytes) (12 + tensors * 4)) (lt_or_le greatest_rows tensors) (lt_or_le room tensors)
    where
      go : (length bytes < 12) ⊎ (12 ≤ length bytes) → (b : Bool) → is_number (word_of bytes 8) tensors ≡ b
          → (length bytes ≡ 12 + tensors * 4) ⊎ (length bytes ≡ 12 + tensors * 4 → ⊥) → (greatest_rows < tensors) ⊎ (tensors ≤ greatest_rows)
          → (room < tensors) ⊎ (tensors ≤ room) → ReadOutcome
      go (inl a) b e c d f = no_head a (sym (read_given bytes tensors room (given (lt-ltb _ _ a))))
      go (inr a) false e c d f = other_count a (λ q. contrary (number_of_lem _ _ q) e) (sym (read_given bytes tensors room (next (le-ltb _ _ a) (given (ap not e)))))
      go (inr a) true e (inr c) d f =
          other_length a (number_says _ _ e) c (sym (read_given bytes tensors room (next (le-ltb _ _ a) (next (ap not e) (given (ap not (ne_eqb _ _ c)))))))
      go (inr a) true e (inl c) (inl d) f =
          too_many_case (number_says _ _ e) c d (sym (read_given bytes tensors room (next (le-ltb _ _ a) (next (ap not e) (next (ap not (eq-eqb _ _ c)) (given (lt-ltb _ _ d)))))))
      go (inr a) true e (inl c) (inr d) (inl f) =
          too_short (number_says _ _ e) c d f (sym (read_given bytes tensors room (next (le-ltb _ _ a) (next (ap not e) (next (ap not (eq-eqb _ _ c)) (next (le-ltb _ _ d) (given (lt-ltb _ _ f))))))))
      go (inr a) true e (inl c) (inr d) (inr f) =
          done (number_says _ _ e) c d f (sym (read_given bytes tensors room (next (le-ltb _ _ a) (next (ap not e) (next (ap not (eq-eqb _ _ c)) (next (le-ltb _ _ d) (next (le-ltb _ _ f) none_left)))))))

module _ (offsets : List ℤ) (room : ℕ) where
  -- What writing may answer.
  pub data WriteOutcome : Type 0 where
    too_many_offsets : greatest_rows < length offsets → write_of offsets room ≡ refused too_many → WriteOutcome
    too_few_bytes : length offsets ≤ greatest_rows → room < 12 + length offsets * 4 → write_of offsets room ≡ refused table_too_short → WriteOutcome
    written : length offsets ≤ greatest_rows → 12 + length offsets * 4 ≤ room → write_of offsets room ≡ done_with 0 → WriteOutcome

  -- So it is answered.
  pub write_outcome : WriteOutcome
  write_outcome = go (lt_or_le greatest_rows (length offsets)) (lt_or_le room (12 + length offsets * 4))
    where
      go : (greatest_rows < length offsets) ⊎ (length offsets ≤ greatest_rows) → (room < 12 + length offsets * 4) ⊎ (12 + length offsets * 4 ≤ room) → WriteOutcome
      go (inl a) b = too_many_offsets a (sym (write_given offsets room (given (lt-ltb _ _ a))))
      go (inr a) (inl b) = too_few_bytes a b (sym (write_given offsets room (next (le-ltb _ _ a) (given (lt-ltb _ _ b)))))
      go (inr a) (inr b) = written a b (sym (write_given offsets room (next (le-ltb _ _ a) (next (le-ltb _ _ b) none_left))))
