-- Laws of the definitions of specs/RoundTrips.antt.
use Prim.Native.Nat.{ℕ, suc, ◌+◌, ◌*◌, ◌<◌, ◌≤◌}
use mathlib.Core.List.{List, ◌++◌}
use Rattle.std.proofs.Common.{inr, ⊎_elim, sym, ◌∙◌, arith, ext_get_or, take_at}
use Rattle.std.specs.Prelude.{◌≡◌, refl, ℤ, pos, get_or, take}
use Rattle.std.proofs.Math.Path.{ap}
use Rattle.std.proofs.Math.ListN.{length, drop}
use Rattle.std.proofs.Math.Seq.{get_or-take, length-take-le}
use Rattle.answer.specs.Answer.{done_with, number_of}
use Rattle.bounded.proofs.Boolean.{lt_or_le}
use Rattle.bounded.proofs.Front.{front_length, front_at, front_past}
use Rattle.word_bytes.specs.Bytes.{word_of, with_word}
use Rattle.word_bytes.proofs.BytesComeBack.{word_same, length_kept}
use Rattle.word_lists.specs.WordLists.{words_from, with_words}
use Rattle.word_lists.specs.WordsComeBack.{AllFit}
use Rattle.word_lists.proofs.WordsComeBack.{words_length, words_of_front, put_length, put_elsewhere, word_put, words_come_back, bytes_come_back}
use Rattle.offline_rule.specs.OfflinePlan.{plan_bytes, count_place, offsets_place, read_of, plan_words, write_of, bytes_written}
use Rattle.offline_rule.proofs.FinalTables.{words_fit}
use Rattle.offline_rule.specs.Answers.{Readable, Writable}
use Rattle.offline_rule.proofs.Answers.{read_says, read_of_lem, done_read, write_says, write_of_lem, done_written}
use Rattle.offline_rule.specs.RoundTrips.{ReadsBack, WritesBack, read_plan}

module _ (offsets : List ℤ) (bytes : List ℕ) (table : List ℤ) (fit : AllFit offsets) (z : (write_of offsets (length bytes)).number ≡ 0)
    (room : length offsets ≤ length table) where
  w : Writable offsets (length bytes)
  w = write_says offsets (length bytes) z

  whole : List ℕ
  whole = with_words bytes 0 (plan_words offsets)

  whole_length : length whole ≡ length bytes
  unfolding whole
  whole_length = put_length bytes 0 (plan_words offsets)

  count_back : word_of (take (plan_bytes (length offsets)) whole) count_place ≡ pos (length offsets)
  unfolding whole
  count_back =
      word_same (take (plan_bytes (length offsets)) whole) whole count_place count_place (λ i h. get_or-take (plan_bytes (length offsets)) whole (count_place + i) 0 (omega arith))
      ∙ word_put bytes 0 (plan_words offsets) (words_fit offsets fit w.few) (omega (arith, w.roomy)) 2 (omega arith)

  offsets_back : words_from (take (plan_bytes (length offsets)) whole) offsets_place (length offsets) ≡ offsets
  unfolding whole with_words
  offsets_back =
      let head : List ℕ = with_word (with_word (with_word bytes 0 (pos 1)) 4 (pos 1)) 8 (pos (length offsets)) in
      let long : length head ≡ length bytes = length_kept _ 8 _ ∙ length_kept _ 4 _ ∙ length_kept bytes 0 _ in
      words_of_front whole (plan_bytes (length offsets)) offsets_place (length offsets) (omega arith)
      ∙ words_come_back head offsets_place offsets fit (omega (arith, w.roomy))

  -- An offline plan that we write reads back as the same offsets.
  pub reads_back : ReadsBack offsets bytes table
  unfolding whole
  reads_back =
      let written : bytes_written offsets bytes ≡ whole = done_written offsets bytes z in
      let long : length (take (plan_bytes (length offsets)) whole) ≡ plan_bytes (length offsets) = length-take-le (plan_bytes (length offsets)) whole (omega (arith, whole_length, w.roomy)) in
      let d : read_of (take (plan_bytes (length offsets)) whole) (length offsets) (length table) ≡ done_with 0 =
      read_of_lem _ _ _ record { count_is = count_back; whole = long; few = w.few; roomy = room } in
      record {
        done = rw written d;
        same = rw written (done_read _ _ _ (ap number_of d) ∙ ap (λ (xs : List ℤ). xs ++ drop (length offsets) table) offsets_back);
      }

-- The words of some bytes, put in front of others, are those bytes and the rest of the others.
put_front : (bytes lent : List ℕ) (n : ℕ) → ((i : ℕ) → get_or bytes i 0 < 256) → length bytes ≡ n * 4 → length bytes ≤ length lent
    → with_words lent 0 (words_from bytes 0 n) ≡ bytes ++ drop (length bytes) lent
put_front bytes lent n small whole room =
    ext_get_or 0 (with_words lent 0 (words_from bytes 0 n)) (bytes ++ drop (length bytes) lent)
    (put_length lent 0 (words_from bytes 0 n) ∙ sym (front_length bytes lent refl room))
    (λ i h.
    ⊎_elim
    (λ (l : i < length bytes). bytes_come_back lent bytes 0 n i small (omega arith) (omega arith) (omega arith) ∙ sym (front_at bytes lent refl 0 i l))
    (λ (l : length bytes ≤ i). put_elsewhere lent 0 i (words_from bytes 0 n) (inr (omega (arith, words_length bytes 0 n))) ∙ sym (front_past bytes lent refl 0 i l))
    (lt_or_le i (length bytes)))

module _ (bytes : List ℕ) (tensors : ℕ) (table : List ℤ) (small : (i : ℕ) → get_or bytes i 0 < 256) (z : (read_of bytes tensors (length table)).number ≡ 0)
    (version : word_of bytes 0 ≡ pos 1) (subgraphs : word_of bytes 4 ≡ pos 1) (lent : List ℕ) (room : length bytes ≤ length lent) where
  r : Readable bytes tensors (length table)
  r = read_says bytes tensors (length table) z

  plan_is : read_plan bytes tensors table ≡ words_from bytes offsets_place tensors
  plan_is =
      ap (take tensors) (done_read bytes tensors table z)
      ∙ take_at (words_from bytes offsets_place tensors) (drop tensors table) tensors (words_length bytes offsets_place tensors)

  words_are : plan_words (words_from bytes offsets_place tensors) ≡ words_from bytes 0 (suc (suc (suc tensors)))
  unfolding words_from
  words_are = rw (version, subgraphs, r.count_is, words_length bytes offsets_place tensors)

  -- One that we read, whose first two words are ours, is written back byte for byte.
  pub writes_back : WritesBack bytes tensors table lent
  writes_back =
      let long = words_length bytes offsets_place tensors in
      let d : write_of (words_from bytes offsets_place tensors) (length lent) ≡ done_with 0 =
      write_of_lem _ _ record { few = omega (arith, long, r.few); roomy = omega (arith, long, r.whole) } in
      record {
        done = rw plan_is d;
        same = rw plan_is (done_written _ _ (ap number_of d) ∙ rw words_are (put_front bytes lent (suc (suc (suc tensors))) small (omega (arith, r.whole)) room));
      }
