-- Laws of the definitions of specs/WordsComeBack.antt.
use Rattle.std.specs.Prelude.{ℕ, zero, suc, ◌+◌, ◌-◌, ◌*◌, ◌≤◌, ◌<◌, List, [], ◌∷◌, ◌++◌, ◌⊎◌, ◌≡◌, refl, ℤ, pos, length, get_or, take, drop}
use Rattle.std.proofs.Common.{append-nil, inl, inr, ⊎_elim, ◌∙◌, ap, add-zero, le_of_suc-le-suc, arith, take-append-drop, length-drop, drop_of_length-le, get_or-take, get_or-drop, ext_get_or, take_all}
use Rattle.bounded.proofs.Boolean.{lt_or_le}
use Rattle.word_bytes.specs.Bytes.{word_of, with_word}
use Rattle.word_bytes.proofs.BytesComeBack.{word_just_put, word_same, byte_elsewhere, byte_copied, put_behind, front_stays, length_kept}
use Rattle.word_lists.specs.WordLists.{words_from, with_words}
use Rattle.word_lists.specs.WordsComeBack.{AllFit}

-- ---- what is read

-- As many words are read as were asked for,
pub words_length : (bytes : List ℕ) (at n : ℕ) → length (words_from bytes at n) ≡ n
unfolding words_from
words_length bytes at zero = refl
words_length bytes at (suc n) = ap suc (words_length bytes (at + 4) n)

-- each where it stands.
pub words_at : (bytes : List ℕ) (at n k : ℕ) → k < n → get_or (words_from bytes at n) k (pos 0) ≡ word_of bytes (at + k * 4)
unfolding words_from
words_at bytes at zero k h = absurd (omega arith)
words_at bytes at (suc n) zero h = ap (word_of bytes) (omega arith)
words_at bytes at (suc n) (suc k) h = words_at bytes (at + 4) n k (le_of_suc-le-suc h) ∙ ap (word_of bytes) (omega arith)

-- Words that agree one by one are read alike.
pub words_same : (bytes others : List ℕ) (at place n : ℕ) → ((k : ℕ) → k < n → word_of bytes (at + k * 4) ≡ word_of others (place + k * 4))
    → words_from bytes at n ≡ words_from others place n
unfolding words_from
words_same bytes others at place zero f = refl
words_same bytes others at place (suc n) f =
    let first : word_of bytes at ≡ word_of others place = simp add-zero at (f 0 (omega arith)) in
    let rest = words_same bytes others (at + 4) (place + 4) n (λ k h. ap (word_of bytes) (omega arith) ∙ f (k + 1) (omega arith) ∙ ap (word_of others) (omega arith)) in
    cc

-- What stands behind the words is not looked at,
pub words_of_front : (bytes : List ℕ) (m at n : ℕ) → at + n * 4 ≤ m → words_from (take m bytes) at n ≡ words_from bytes at n
words_of_front bytes m at n l =
    words_same (take m bytes) bytes at at n (λ k h. word_same (take m bytes) bytes (at + k * 4) (at + k * 4) (λ i g. get_or-take m bytes (at + k * 4 + i) 0 (omega arith)))

-- nor what stands before them.
pub words_of_rest : (bytes : List ℕ) (m n : ℕ) → words_from (drop m bytes) 0 n ≡ words_from bytes m n
words_of_rest bytes m n =
    words_same (drop m bytes) bytes 0 m n
    (λ k h. word_same (drop m bytes) bytes (0 + k * 4) (m + k * 4) (λ i g. get_or-drop m bytes (0 + k * 4 + i) 0 ∙ ap (λ (j : ℕ). get_or bytes j 0) (omega arith)))

-- So the words of a part of the bytes, from a place to their end, are those from that place on.
pub words_of_part : (bytes : List ℕ) (m n : ℕ) → words_from (take (length bytes - m) (drop m bytes)) 0 n ≡ words_from bytes m n
words_of_part bytes m n = rw (take_all (length bytes - m) (drop m bytes) (simp length-drop (omega arith))) (words_of_rest bytes m n)

-- ---- what is put

-- Putting words changes no length,
pub put_length : (bytes : List ℕ) (at : ℕ) (ws : List ℤ) → length (with_words bytes at ws) ≡ length bytes
unfolding with_words
put_length bytes at [] = refl
put_length bytes at (w ∷ ws) = put_length (with_word bytes at w) (at + 4) ws ∙ length_kept bytes at w

-- and no byte but those of the words.
pub put_elsewhere : (bytes : List ℕ) (at i : ℕ) (ws : List ℤ) → (i < at) ⊎ (at + length ws * 4 ≤ i) → get_or (with_words bytes at ws) i 0 ≡ get_or bytes i 0
unfolding with_words
put_elsewhere bytes at i [] apart = refl
put_elsewhere bytes at i (w ∷ ws) apart =
    put_elsewhere (with_word bytes at w) (at + 4) i ws (⊎_elim (λ h. inl (omega arith)) (λ h. inr (omega arith)) apart)
    ∙ byte_elsewhere bytes at i w (⊎_elim inl (λ h. inr (omega arith)) apart)

-- A list behind another: the one is put, then the other behind it.
pub put_both : (bytes : List ℕ) (at : ℕ) (vs ws : List ℤ) → with_words bytes at (vs ++ ws) ≡ with_words (with_words bytes at vs) (at + length vs * 4) ws
unfolding with_words
put_both bytes at [] ws = ap (λ (k : ℕ). with_words bytes k ws) (omega arith)
put_both bytes at (v ∷ vs) ws =
    put_both (with_word bytes at v) (at + 4) vs ws ∙ ap (λ (k : ℕ). with_words (with_words (with_word bytes at v) (at + 4) vs) k ws) (omega arith)

-- Words put into what stands behind the first m bytes are put behind those.
pub put_behind_front : (bytes : List ℕ) (m at : ℕ) (ws : List ℤ) → take m bytes ++ with_words (drop m bytes) at ws ≡ with_words bytes (m + at) ws
unfolding with_words
put_behind_front bytes m at [] = take-append-drop m bytes
put_behind_front bytes m at (w ∷ ws) =
    rw (← front_stays bytes m (m + at) w (omega arith), ← put_behind bytes m at w)
    (put_behind_front (with_word bytes (m + at) w) m (at + 4) ws ∙ ap (λ (k : ℕ). with_words (with_word bytes (m + at) w) k ws) (omega arith))

-- So words put into a part of the bytes, from a place to their end, are put from that place on.
pub put_of_part : (bytes : List ℕ) (m : ℕ) (ws : List ℤ)
    → take m bytes ++ (with_words (take (length bytes - m) (drop m bytes)) 0 ws ++ drop (length bytes - m) (drop m bytes)) ≡ with_words bytes m ws
put_of_part bytes m ws =
    let long : length (drop m bytes) ≤ length bytes - m = simp length-drop (omega arith) in
    rw (take_all (length bytes - m) (drop m bytes) long, drop_of_length-le (drop m bytes) long, append-nil)
    (put_behind_front bytes m 0 ws ∙ rw add-zero)

-- ---- both

-- A word of the list that was put is the one read there;
pub word_put : (bytes : List ℕ) (at : ℕ) (ws : List ℤ) → AllFit ws → at + length ws * 4 ≤ length bytes → (k : ℕ) → k < length ws
    → word_of (with_words bytes at ws) (at + k * 4) ≡ get_or ws k (pos 0)
unfolding with_words
word_put bytes at [] fit room k h = absurd (omega arith)
word_put bytes at (w ∷ ws) fit room zero h =
    word_same (with_words (with_word bytes at w) (at + 4) ws) (with_word bytes at w) (at + 0) at
    (λ i g. put_elsewhere (with_word bytes at w) (at + 4) (at + 0 + i) ws (inl (omega arith)) ∙ ap (λ (j : ℕ). get_or (with_word bytes at w) j 0) (omega arith))
    ∙ word_just_put bytes at w (fit 0 h) (omega arith)
word_put bytes at (w ∷ ws) fit room (suc k) h =
    ap (word_of (with_words (with_word bytes at w) (at + 4) ws)) (omega arith)
    ∙ word_put (with_word bytes at w) (at + 4) ws (λ j l. fit (suc j) (omega arith)) (omega (arith, length_kept bytes at w)) k (le_of_suc-le-suc h)

-- so the list comes back.
pub words_come_back : (bytes : List ℕ) (at : ℕ) (ws : List ℤ) → AllFit ws → at + length ws * 4 ≤ length bytes → words_from (with_words bytes at ws) at (length ws) ≡ ws
words_come_back bytes at ws fit room =
    ext_get_or (pos 0) (words_from (with_words bytes at ws) at (length ws)) ws (words_length (with_words bytes at ws) at (length ws))
    (λ k h. let l : k < length ws = omega (arith, words_length (with_words bytes at ws) at (length ws)) in words_at (with_words bytes at ws) at (length ws) k l ∙ word_put bytes at ws fit room k l)

-- The words read from some bytes, put at that place of others, copy their bytes.
pub bytes_come_back : (bytes source : List ℕ) (at n i : ℕ) → ((j : ℕ) → get_or source j 0 < 256) → at + n * 4 ≤ length bytes → at ≤ i → i < at + n * 4
    → get_or (with_words bytes at (words_from source at n)) i 0 ≡ get_or source i 0
unfolding words_from with_words
bytes_come_back bytes source at zero i small room l h = absurd (omega arith)
bytes_come_back bytes source at (suc n) i small room l h =
    ⊎_elim
    (λ (m : i < at + 4). put_elsewhere (with_word bytes at (word_of source at)) (at + 4) i (words_from source (at + 4) n) (inl m) ∙ byte_copied bytes source at i small (omega arith) l m)
    (λ (m : at + 4 ≤ i). bytes_come_back (with_word bytes at (word_of source at)) source (at + 4) n i small (omega (arith, length_kept bytes at (word_of source at))) m (omega arith))
    (lt_or_le i (at + 4))
