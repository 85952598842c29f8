-- What is put into bytes is what is read from them: bits and signed numbers are the same thing twice, a word that was put comes back, the
-- words beside it stay, and a word put back where it was read changes nothing.
use Rattle.std.specs.Prelude.{ℕ, zero, suc, ◌+◌, ◌*◌, ◌-◌, ◌/◌, ◌%◌, ◌^◌, ◌≤◌, ◌<◌, Bool, true, false, cond, List, [], ◌⊎◌, ◌≡◌, refl, ltb, ℤ, pos, negsuc, length, get_or, take, drop, set}
use Rattle.std.proofs.Common.{⊎_elim, ap, ◌∙◌, add_assoc, add-zero, eq-or-lt_of_le, arith, lt-ltb, le-ltb, length-set, get_or-set_same, get_or-set_other}
use Rattle.std.proofs.Math.ListN.{get_or-eq_default}
use Rattle.std.proofs.lemmas.List.{set-get_or, drop-set-add, take-set-le}
use Rattle.std.proofs.Math.Seq.{set_out}
use Rattle.std.specs.Int.Signed.{mag}
use Rattle.word_bytes.specs.Bytes.{little_endian, with_little_endian, signed_word, unsigned_word, word_of, with_word}

-- A signed number that 32 bits hold comes back from its bits.
pub signed_of_unsigned : (z : ℤ) → mag z < 2 ^ 31 → signed_word (unsigned_word z) ≡ z
unfolding signed_word unsigned_word
signed_of_unsigned (pos n) h = rw (lt-ltb n 2147483648 (omega arith))
signed_of_unsigned (negsuc n) h =
    rw (le-ltb (4294967295 - n) 2147483648 (omega arith)) (ap negsuc (omega arith))

-- 32 bits come back from the signed number that they are.
pub unsigned_of_signed : (n : ℕ) → n < 2 ^ 32 → unsigned_word (signed_word n) ≡ n
unfolding signed_word unsigned_word
unsigned_of_signed n h = go (ltb n 2147483648) refl
  where
    go : (b : Bool) → ltb n 2147483648 ≡ b → unsigned_word (cond b (pos n) (negsuc (4294967295 - n))) ≡ n
    go true e = refl
    go false e = omega arith

outside : (k : ℕ) (bytes : List ℕ) (at i n : ℕ) → ((j : ℕ) → j < k → i ≡ at + j → ⊥)
    → get_or (with_little_endian bytes at k n) i 0 ≡ get_or bytes i 0
unfolding with_little_endian
outside zero bytes at i n apart = refl
outside (suc k) bytes at i n apart =
    outside k (set bytes at (n % 256)) (at + 1) i (n / 256) (λ j h e. apart (j + 1) (omega arith) (omega arith))
    ∙ get_or-set_other bytes at i (n % 256) 0 (λ e. apart 0 (omega arith) (omega arith))

just_put : (k : ℕ) (bytes : List ℕ) (at n : ℕ) → at + k ≤ length bytes → n < 256 ^ k
    → little_endian (with_little_endian bytes at k n) at k ≡ n
unfolding little_endian with_little_endian
just_put zero bytes at n room h = omega arith
just_put (suc k) bytes at n room h =
    let stays = outside k (set bytes at (n % 256)) (at + 1) at (n / 256) (λ j h e. omega arith) in
    let low = get_or-set_same bytes at (n % 256) 0 (omega arith) in
    let rest = just_put k (set bytes at (n % 256)) (at + 1) (n / 256) (simp length-set (omega arith)) (omega arith) in
    rw (stays, low, rest) (omega arith)

elsewhere : (m k : ℕ) (bytes : List ℕ) (at other n : ℕ) → ((i j : ℕ) → i < m → j < k → other + i ≡ at + j → ⊥)
    → little_endian (with_little_endian bytes at k n) other m ≡ little_endian bytes other m
unfolding little_endian
elsewhere zero k bytes at other n apart = refl
elsewhere (suc m) k bytes at other n apart =
    let here = outside k bytes at other n (λ j h e. apart 0 j (omega arith) h (omega arith)) in
    let rest = elsewhere m k bytes at (other + 1) n (λ i j h g e. apart (i + 1) j (omega arith) g (omega arith)) in
    cc

copied : (k : ℕ) (bytes source : List ℕ) (at i : ℕ) → ((j : ℕ) → get_or source j 0 < 256) → at + k ≤ length bytes → at ≤ i → i < at + k
    → get_or (with_little_endian bytes at k (little_endian source at k)) i 0 ≡ get_or source i 0
unfolding little_endian with_little_endian
copied zero bytes source at i small room l h = absurd (omega arith)
copied (suc k) bytes source at i small room l h =
    let low : (get_or source at 0 + 256 * little_endian source (at + 1) k) % 256 ≡ get_or source at 0 = omega (arith, small at) in
    let high : (get_or source at 0 + 256 * little_endian source (at + 1) k) / 256 ≡ little_endian source (at + 1) k = omega (arith, small at) in
    let rest : List ℕ = set bytes at (get_or source at 0) in
    let above : ℕ = little_endian source (at + 1) k in
    rw (low, high)
    (⊎_elim
    (λ e. rw (← e) (outside k rest (at + 1) at above (λ j h e. omega arith) ∙ get_or-set_same bytes at (get_or source at 0) 0 (omega arith)))
    (λ (m : at < i). copied k rest source (at + 1) i small (simp length-set (omega arith)) (omega arith) (omega arith))
    (eq-or-lt_of_le l))

same : (k : ℕ) (bytes others : List ℕ) (at place : ℕ) → ((i : ℕ) → i < k → get_or bytes (at + i) 0 ≡ get_or others (place + i) 0)
    → little_endian bytes at k ≡ little_endian others place k
unfolding little_endian
same zero bytes others at place f = refl
same (suc k) bytes others at place f =
    let first : get_or bytes at 0 ≡ get_or others place 0 = simp add-zero at (f 0 (omega arith)) in
    let rest = same k bytes others (at + 1) (place + 1) (λ i h. simp add_assoc (f (1 + i) (omega arith))) in
    cc

-- A number of k bytes is below 256 to the k.
pub number_fits : (k : ℕ) (bytes : List ℕ) (at : ℕ) → ((i : ℕ) → get_or bytes i 0 < 256) → little_endian bytes at k < 256 ^ k
unfolding little_endian
number_fits zero bytes at small = omega arith
number_fits (suc k) bytes at small = omega (arith, small at, number_fits k bytes (at + 1) small)

put_back : (k : ℕ) (bytes : List ℕ) (at : ℕ) → ((i : ℕ) → get_or bytes i 0 < 256)
    → with_little_endian bytes at k (little_endian bytes at k) ≡ bytes
unfolding little_endian with_little_endian
put_back zero bytes at small = refl
put_back (suc k) bytes at small =
    let low : (get_or bytes at 0 + 256 * little_endian bytes (at + 1) k) % 256 ≡ get_or bytes at 0 = omega (arith, small at) in
    let high : (get_or bytes at 0 + 256 * little_endian bytes (at + 1) k) / 256 ≡ little_endian bytes (at + 1) k = omega (arith, small at) in
    rw (low, high, set-get_or bytes at 0) (put_back k bytes (at + 1) small)

kept : (k : ℕ) (bytes : List ℕ) (at n : ℕ) → length (with_little_endian bytes at k n) ≡ length bytes
unfolding with_little_endian
kept zero bytes at n = refl
kept (suc k) bytes at n = kept k (set bytes at (n % 256)) (at + 1) (n / 256) ∙ length-set bytes at (n % 256)

unput : (k : ℕ) (bytes : List ℕ) (at n : ℕ) → length bytes ≤ at → with_little_endian bytes at k n ≡ bytes
unfolding with_little_endian
unput zero bytes at n l = refl
unput (suc k) bytes at n l = rw (set_out bytes at (n % 256) l) (unput k bytes (at + 1) (n / 256) (omega arith))

behind : (k : ℕ) (bytes : List ℕ) (m at n : ℕ) → drop m (with_little_endian bytes (m + at) k n) ≡ with_little_endian (drop m bytes) at k n
unfolding with_little_endian
behind zero bytes m at n = refl
behind (suc k) bytes m at n =
    rw (add_assoc m at 1) (behind k (set bytes (m + at) (n % 256)) m (at + 1) (n / 256) ∙ rw (drop-set-add m bytes at (n % 256)))

in_front : (k : ℕ) (bytes : List ℕ) (m at n : ℕ) → m ≤ at → take m (with_little_endian bytes at k n) ≡ take m bytes
unfolding with_little_endian
in_front zero bytes m at n l = refl
in_front (suc k) bytes m at n l =
    in_front k (set bytes at (n % 256)) m (at + 1) (n / 256) (omega arith) ∙ take-set-le m bytes at (n % 256) l

unsigned_fits : (z : ℤ) → mag z < 2 ^ 31 → unsigned_word z < 2 ^ 32
unfolding unsigned_word
unsigned_fits (pos n) h = omega arith
unsigned_fits (negsuc n) h = omega arith

-- The word just put, where its four bytes lie in the list, is the one read there.
pub word_just_put : (bytes : List ℕ) (at : ℕ) (z : ℤ) → mag z < 2 ^ 31 → at + 4 ≤ length bytes → word_of (with_word bytes at z) at ≡ z
unfolding word_of with_word
word_just_put bytes at z h room =
    ap signed_word (just_put 4 bytes at (unsigned_word z) room (unsigned_fits z h)) ∙ signed_of_unsigned z h

-- A word four bytes or more away is read as before.
pub word_elsewhere : (bytes : List ℕ) (at other : ℕ) (z : ℤ) → (at + 4 ≤ other) ⊎ (other + 4 ≤ at)
    → word_of (with_word bytes at z) other ≡ word_of bytes other
unfolding word_of with_word
word_elsewhere bytes at other z apart =
    ap signed_word
    (elsewhere 4 4 bytes at other (unsigned_word z) (λ i j h g e. ⊎_elim (λ w. omega arith) (λ w. omega arith) apart))

-- The word read at a place, put back there, leaves the bytes as they are.
pub word_put_back : (bytes : List ℕ) (at : ℕ) → ((i : ℕ) → get_or bytes i 0 < 256) → with_word bytes at (word_of bytes at) ≡ bytes
unfolding word_of with_word
word_put_back bytes at small =
    rw (unsigned_of_signed (little_endian bytes at 4) (number_fits 4 bytes at small)) (put_back 4 bytes at small)

-- Putting a word changes no length.
pub length_kept : (bytes : List ℕ) (at : ℕ) (z : ℤ) → length (with_word bytes at z) ≡ length bytes
unfolding with_word
length_kept bytes at z = kept 4 bytes at (unsigned_word z)

-- Putting a word changes no byte but its four.
pub byte_elsewhere : (bytes : List ℕ) (at i : ℕ) (z : ℤ) → (i < at) ⊎ (at + 4 ≤ i) → get_or (with_word bytes at z) i 0 ≡ get_or bytes i 0
unfolding with_word
byte_elsewhere bytes at i z apart = outside 4 bytes at i (unsigned_word z) (λ j h e. ⊎_elim (λ w. omega arith) (λ w. omega arith) apart)

-- The word read at a place of some bytes, put at that place of others, copies its four bytes.
pub byte_copied : (bytes source : List ℕ) (at i : ℕ) → ((j : ℕ) → get_or source j 0 < 256) → at + 4 ≤ length bytes → at ≤ i → i < at + 4
    → get_or (with_word bytes at (word_of source at)) i 0 ≡ get_or source i 0
unfolding word_of with_word
byte_copied bytes source at i small room l h =
    rw (unsigned_of_signed (little_endian source at 4) (number_fits 4 source at small)) (copied 4 bytes source at i small room l h)

-- Four bytes that are the same are one word, wherever they stand.
pub word_same : (bytes others : List ℕ) (at place : ℕ) → ((i : ℕ) → i < 4 → get_or bytes (at + i) 0 ≡ get_or others (place + i) 0)
    → word_of bytes at ≡ word_of others place
unfolding word_of
word_same bytes others at place f = ap signed_word (same 4 bytes others at place f)

-- Past the end every word is 0.
pub word_past : (bytes : List ℕ) (at : ℕ) → length bytes ≤ at → word_of bytes at ≡ pos 0
unfolding word_of little_endian signed_word
word_past bytes at l = word_same bytes [] at 0 (λ i h. get_or-eq_default bytes 0 (omega arith))

-- A word put past the end changes nothing.
pub put_past : (bytes : List ℕ) (at : ℕ) (z : ℤ) → length bytes ≤ at → with_word bytes at z ≡ bytes
unfolding with_word
put_past bytes at z l = unput 4 bytes at (unsigned_word z) l

-- A word put behind the first m bytes is put into what stands behind them,
pub put_behind : (bytes : List ℕ) (m at : ℕ) (z : ℤ) → drop m (with_word bytes (m + at) z) ≡ with_word (drop m bytes) at z
unfolding with_word
put_behind bytes m at z = behind 4 bytes m at (unsigned_word z)

-- and the first m stay.
pub front_stays : (bytes : List ℕ) (m at : ℕ) (z : ℤ) → m ≤ at → take m (with_word bytes at z) ≡ take m bytes
unfolding with_word
front_stays bytes m at z l = in_front 4 bytes m at (unsigned_word z) l
