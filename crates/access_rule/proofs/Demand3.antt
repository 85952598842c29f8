-- Laws of the definitions of specs/Demand3.antt.
use Rattle.std.specs.Prelude.{ℕ, ◌+◌, ◌<◌, ◌≤◌, Bool, List, ◌⊎◌, ◌≡◌, leb, ℤ, pos, length, get_or}
use Rattle.std.proofs.Math.Bool.{true, false, not}
use Rattle.std.proofs.Common.{inl, inr, ◌∙◌, ap₂, arith}
use Rattle.std.proofs.Math.Path.{refl, sym, ap, subst}
use borrow.Author.Tests.{leb-true, ltb-true, ltb-false, not-false}
use Rattle.answer.specs.Answer.{number_of}
use Rattle.bounded.proofs.Boolean.{either, contrary}
use Rattle.bounded.specs.First.{holds_below}
use Rattle.bounded.proofs.First.{none_found, none_holds}
use Rattle.bounded.proofs.Replaced.{replaced_at}
use Rattle.words.specs.Words.{natural, is_minus_one}
use Rattle.words.specs.WordOrders.{within, natural_of, natural_word, one_word}
use Rattle.request_table.specs.Buffers.{buffer_at, end}
use Rattle.request_table.specs.GoodRows.{GoodRow}
use Rattle.request_table.specs.Limits.{grid, greatest_rows}
use Rattle.request_table.specs.Table.{rows, word, request}
use Rattle.inspection_rule.specs.ExactRule.{Passed}
use Rattle.inspection_rule.proofs.ExactRule.{passed_says, passed_acceptable}
use Rattle.inspection_rule.specs.Inspect.{proposed, proposed_need}
use Rattle.access_rule.specs.Accesses.{count, access, reads, written, good, bad_access}
use Rattle.access_rule.specs.Answers.{Sized}
use Rattle.access_rule.proofs.Answers.{done_says, touches_decide, touches_passed, touch_refused, done_bytes, refusal_keeps}
use Rattle.access_rule.specs.GoodAccesses.{Reaches}
use Rattle.access_rule.proofs.GoodAccesses.{good_says}
use Rattle.access_rule.specs.GoodScripts.{LivingByte, GoodScript}
use Rattle.access_rule.proofs.GoodScripts.{allowed_is, reads_is, written_is, rising, script_says, script_of_lem, lowest_bad}
use Rattle.access_rule.proofs.Inside.{below_end, end_needed}
use Rattle.access_rule.proofs.LastWrites.{stands, untouched, read_answer}
use Rattle.access_rule.specs.OneHolder.{Holds}
use Rattle.access_rule.proofs.OneHolder.{one_holder}
use Rattle.access_rule.specs.Run.{byte_of, arena_after, answer_byte}
use Rattle.access_rule.specs.Script.{touches_of, script_of, final_bytes}
use Rattle.access_rule.specs.Demand3.{Demand3, Lent, Reads, RefusedWhole, SameByte, ScriptDone, Writes, falls_on}

-- ---- a touch's words, and the touch as the code has it

-- A touch that reads, as the code has it,
pub reads_of : (s : List ℤ) (k : ℕ) → Reads s k → reads (access s k) ≡ true
unfolding is_minus_one
reads_of s k e = reads_is s k ∙ ap is_minus_one e

-- and one that writes.
pub writes_of : (s : List ℤ) (k v : ℕ) → Writes s k v → (reads (access s k) ≡ false) × (written (access s k) ≡ v)
unfolding is_minus_one natural
writes_of s k v e = let r : reads (access s k) ≡ false = reads_is s k ∙ ap is_minus_one e in (r, written_is s k r ∙ ap natural e)

-- A good touch that does not read writes a byte.
pub write_says : (t s : List ℤ) (k : ℕ) → good t s k ≡ true → reads (access s k) ≡ false → Writes s k (written (access s k))
write_says t s k e f =
    (within (word s k 3) 255 (omega arith)
    (⊎-out (either (is_minus_one (word s k 3)) (leb (natural (word s k 3)) 255) (sym (allowed_is s k) ∙ (good_says t s k e).1.value)))
    ).is
    ∙ ap pos (sym (written_is s k f))
  where
    ⊎-out : (is_minus_one (word s k 3) ≡ true) ⊎ (leb (natural (word s k 3)) 255 ≡ true) → natural (word s k 3) ≤ 255
    ⊎-out (inl q) = contrary q (sym (reads_is s k) ∙ f)
    ⊎-out (inr q) = leb-true _ _ q

-- The byte on which a touch falls is the one that the run works on.
pub falls : (o s : List ℤ) (k : ℕ) → byte_of o (access s k) ≡ falls_on o s k
unfolding byte_of access
falls o s k = refl

module _ (g : ℕ) (t : List ℤ) (space : ℕ) (o s : List ℤ) (arena bytes : List ℕ) (h : 0 < g) (l : Lent g t space o s arena bytes) where
  plan : Passed g t space o
  plan = passed_says g t space o l.accepted

  sized : Sized t o s (length bytes)
  sized = record {
    whole = plan.checks.shaped.whole;
    whole_script = l.whole;
    few = plan.checks.shaped.few;
    few_accesses = l.few;
    proposed_all = plan.checks.shaped.roomy;
    roomy = l.room;
  }

  -- ---- (a)

  row_good : (r : ℕ) → r < rows t → GoodRow g t r
  row_good = (passed_acceptable g t space o h plan).table.each

  few_rows : rows t ≤ greatest_rows
  few_rows = plan.checks.shaped.few

  -- past everything else, the touches decide
  decided : touches_of t space s (length arena) ≡ script_of g t space o s (length arena) (length bytes)
  decided = touches_decide t o s (length bytes) g space (length arena) sized l.accepted

  all_good : ScriptDone g t space o s arena bytes → (k : ℕ) → k < count s → good t s k ≡ true
  all_good d = (done_says t o s (length bytes) g space (length arena) (ap number_of d)).all_good

  good_script_done : GoodScript t s → ScriptDone g t space o s arena bytes
  unfolding holds_below
  good_script_done x =
      sym
      (touches_passed t space s (length arena) l.long_enough
      (ltb-false _ _ (none_found (bad_access t s) (count s) (λ k m. ap not (script_of_lem g t s row_good few_rows x k m))))
      ∙ decided)

  refuse : (GoodScript t s → ⊥) → RefusedWhole g t space o s arena bytes
  unfolding holds_below
  refuse f = go (holds_below (bad_access t s) (count s)) refl
    where
      go : (b : Bool) → holds_below (bad_access t s) (count s) ≡ b → RefusedWhole g t space o s arena bytes
      go false e = absurd (f (script_says g t s row_good few_rows (λ k m. not-false _ (none_holds (bad_access t s) (count s) e k m))))
      go true e =
          let a = sym (touch_refused t space s (length arena) l.long_enough (ltb-true _ _ e) ∙ decided) in
          let kept = refusal_keeps g t space o s arena bytes (λ z. omega (arith, ap number_of a)) in
          record { touch = _; lowest = lowest_bad g t s row_good few_rows e; answer = a; arena_kept = kept.0; bytes_kept = kept.1 }

  -- ---- (b), (c), (d)

  module _ (d : ScriptDone g t space o s arena bytes) where
    reached : (k : ℕ) → k < count s → Reaches t (access s k)
    reached k m = (good_says t s k (all_good d k m)).1

    within_space : (k : ℕ) → k < count s → falls_on o s k < space
    within_space k m =
        omega (arith, falls o s k, below_end g t o h (access s k) (reached k m), end_needed g t o h (access s k) (reached k m), plan.within_space)

    bounds : (k r : ℕ) → k < count s → word s k 1 ≡ pos r
        → (falls_on o s k < end (buffer_at g t r (proposed o r))) × (end (buffer_at g t r (proposed o r)) ≤ proposed_need g t o) × (proposed_need g t o ≤ space)
    unfolding access natural
    bounds k r m e =
        let q : (access s k).row.0 ≡ r = ap natural e in
        subst (λ (x : ℕ). (falls_on o s k < end (buffer_at g t x (proposed o x))) × (end (buffer_at g t x (proposed o x)) ≤ proposed_need g t o) × (proposed_need g t o ≤ space)) q
        (subst (λ (y : ℕ). y < end (buffer_at g t (access s k).row.0 (proposed o (access s k).row.0))) (falls o s k) (below_end g t o h (access s k) (reached k m)), end_needed g t o h (access s k) (reached k m), plan.within_space)

    -- the byte that a read answers with, in the table in the end
    answered : (k : ℕ) → k < count s → Reads s k → get_or (final_bytes g t space o s arena bytes) k 0 ≡ get_or (arena_after o s arena k) (falls_on o s k) 0
    answered k m r =
        ap (λ (xs : List ℕ). get_or xs k 0) (done_bytes g t space o s arena bytes (ap number_of d))
        ∙ replaced_at (answer_byte o s arena) (count s) bytes 0 k m l.room
        ∙ read_answer o s arena k (reads_of s k r)
        ∙ ap (λ (x : ℕ). get_or (arena_after o s arena k) x 0) (falls o s k)

    last : (j k v : ℕ) → j < k → k < count s → Reads s k → Writes s j v → falls_on o s j ≡ falls_on o s k
        → ((i w : ℕ) → j < i → i < k → Writes s i w → falls_on o s i ≡ falls_on o s k → ⊥) → get_or (final_bytes g t space o s arena bytes) k 0 ≡ v
    last j k v b m r w q none =
        answered k m r
        ∙ stands o s arena k j (falls_on o s k) b (writes_of s j v w).0 (falls o s j ∙ q) (omega (arith, within_space k m, l.long_enough))
        (λ i lo hi e z. none i _ lo hi (write_says t s i (all_good d i (omega arith)) e) (sym (falls o s i) ∙ z))
        ∙ (writes_of s j v w).1

    lent_byte : (k : ℕ) → k < count s → Reads s k → ((i w : ℕ) → i < k → Writes s i w → falls_on o s i ≡ falls_on o s k → ⊥)
        → get_or (final_bytes g t space o s arena bytes) k 0 ≡ get_or arena (falls_on o s k) 0
    lent_byte k m r none =
        answered k m r
        ∙ untouched o s arena k (falls_on o s k) (λ i b e z. none i _ b (write_says t s i (all_good d i (omega arith)) e) (sym (falls o s i) ∙ z))

    moments : (i j : ℕ) → i ≤ j → j < count s → (access s i).moment.0 ≤ (access s j).moment.0
    moments i j b m = rising g t s row_good few_rows i j b (λ k q. all_good d k (omega arith))

    -- the row of touch k holds its byte from the moment of an earlier touch of that row to its own
    holding : (j k m : ℕ) → j ≤ k → k < count s → word s j 1 ≡ word s k 1 → (access s j).moment.0 ≤ m → m ≤ (access s k).moment.0
        → Holds t o (access s k).row.0 (falls_on o s k) m
    unfolding access
    holding j k m b c e lo hi =
        let x = reached k c in
        let y = reached j (omega arith) in
        let f : (request t (natural (word s k 1))).first.0 ≤ natural (word s j 0) = subst (λ (z : ℤ). (request t (natural z)).first.0 ≤ natural (word s j 0)) e y.begun in
        record { within = x.named; begun = omega arith; lasting = omega (arith, x.lasting); from = omega arith; below = omega (arith, x.inside) }

    -- a touch between two of one row that falls on the later one's byte is of that row and index
    one_byte : (i j k : ℕ) → j < i → i < k → k < count s → word s j 1 ≡ word s k 1 → falls_on o s i ≡ falls_on o s k → SameByte s i k
    unfolding access
    one_byte i j k lo hi m e q =
        let x = living i (omega arith) in
        let y = living k m in
        let u = subst (λ (b : ℕ). Holds t o (access s i).row.0 b (access s i).moment.0) q (holding i i (access s i).moment.0 (omega arith) (omega arith) refl (omega arith) (omega arith)) in
        let v = holding j k (access s i).moment.0 (omega arith) m e (moments j i (omega arith) (omega arith)) (moments i k (omega arith) m) in
        let same : natural (word s i 1) ≡ natural (word s k 1) = one_holder g t space o h plan u v in
        let index : natural (word s i 2) ≡ natural (word s k 2) = omega (arith, q, ap (proposed o) same) in
        record {
          row = one_word (word s i 1) (word s k 1) (natural_word x.names) (natural_word y.names) same;
          index = one_word (word s i 2) (word s k 2) (natural_of (word s i 2) x.index_from) (natural_of (word s k 2) y.index_from) index;
        }
      where
        living : (i : ℕ) → i < count s → LivingByte t s i
        living = (script_says g t s row_good few_rows (all_good d)).living

    own : (j k v : ℕ) → j < k → k < count s → Reads s k → Writes s j v → SameByte s j k
        → ((i w : ℕ) → j < i → i < k → Writes s i w → SameByte s i k → ⊥) → get_or (final_bytes g t space o s arena bytes) k 0 ≡ v
    own j k v b m r w same none =
        last j k v b m r w (ap₂ (λ (x y : ℤ). proposed o (natural x) + natural y) same.row same.index)
        (λ i u lo hi z q. none i u lo hi z (one_byte i j k lo hi m same.row q))

  -- Demand 3, whole.
  pub demand3 : Demand3 g t space o s arena bytes
  demand3 =
      record {
        done_exactly = (λ d. script_says g t s row_good few_rows (all_good d), good_script_done);
        refused_whole = refuse;
        inside_arena = bounds;
        own_byte = own;
        last_write = last;
        byte_lent = lent_byte;
      }

-- And at the grid of the entry points, whose contracts are about the same definitions.
pub demand3_at_grid : (t : List ℤ) (space : ℕ) (o s : List ℤ) (arena bytes : List ℕ) → Lent grid t space o s arena bytes → Demand3 grid t space o s arena bytes
demand3_at_grid t space o s arena bytes l = demand3 grid t space o s arena bytes (omega arith) l
