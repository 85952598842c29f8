-- The turns of the two loops: one word more is read, one word more is put.
use Prim.Native.Nat.{ℕ, ◌+◌, ◌*◌, ◌<◌, ◌≤◌}
use mathlib.Core.List.{List}
use mathlib.Core.Path.{◌≡◌, sym, ◌∙◌, ap}
use native.Mathlib.Numerals.{add-one}
use native.Mathlib.Omega.{arith}
use lib.IntN.{ℤ, pos}
use lib.ListN.{length, get_or, drop, drop_of_length-le}
use lib.Seq.{drop-cons, ext_get_or}
use Rattle.bounded.specs.Replaced.{replaced}
use Rattle.bounded.proofs.Replaced.{replaced_length, replaced_at}
use Rattle.word_bytes.specs.Bytes.{word_of, with_word}
use Rattle.word_lists.specs.WordLists.{words_from, with_words}
use Rattle.word_lists.proofs.WordsComeBack.{words_length, words_at}

-- Every entry is a word of the bytes: these are the words.
pub all_read : (bytes : List ℕ) (table : List ℤ) {n : ℕ} → n ≡ length table → replaced (λ k. word_of bytes (k * 4)) n table ≡ words_from bytes 0 (length table)
all_read bytes table {n} e =
    let kept = replaced_length (λ k. word_of bytes (k * 4)) n table in
    ext_get_or (pos 0) (replaced (λ k. word_of bytes (k * 4)) n table) (words_from bytes 0 (length table)) (kept ∙ sym (words_length bytes 0 (length table)))
    (λ k h.
    let l : k < length table = omega (arith, kept) in
    replaced_at (λ k. word_of bytes (k * 4)) n table (pos 0) k (omega arith) (omega arith)
    ∙ ap (word_of bytes) (omega arith)
    ∙ sym (words_at bytes 0 (length table) k l))

-- One more word is put, and the rest is left to be put behind it.
pub one_put : (bytes whole : List ℕ) (table : List ℤ) (k : ℕ) → k < length table → with_words bytes (k * 4) (drop k table) ≡ whole
    → with_words (with_word bytes (k * 4) (get_or table k (pos 0))) ((k + 1) * 4) (drop (k + 1) table) ≡ whole
unfolding with_words
one_put bytes whole table k l e =
    let place : (k + 1) * 4 ≡ k * 4 + 4 = omega arith in
    rw (place, add-one k) (rw (drop-cons table k (pos 0) l) at e)

-- Nothing is left.
pub all_put : (bytes whole : List ℕ) (table : List ℤ) (k : ℕ) → length table ≤ k → with_words bytes (k * 4) (drop k table) ≡ whole → bytes ≡ whole
unfolding with_words
all_put bytes whole table k l e = rw (drop_of_length-le table l) at e
