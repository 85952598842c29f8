-- Law: "Each of these takes the lowest offset, 0 or above, at which it collides with no row already placed." In the greedy plan a row that is not fixed
-- collides with no row placed before it, and at every lower offset it would collide with one of them.
use Rattle.std.specs.Prelude.{ℕ, ◌<◌, ◌≤◌, true, false, List, ◌≡◌, ℤ}
use Rattle.std.proofs.Common.{sym, ◌∙◌, subst, arith, lt-ltb, ltb-true}
use Rattle.request_table.specs.Buffers.{buffer_at}
use Rattle.request_table.specs.Colliding.{Colliding}
use Rattle.request_table.specs.Table.{rows, fixed}
use Rattle.placement.specs.LowestFree.{LowestFree, Blocker}
use Rattle.placement.proofs.LowestFree.{lowest_free}
use Rattle.placement.specs.Placing.{lowest, offset_for}
use Rattle.greedy_rule.specs.Greedy.{greedy_plan}
use Rattle.greedy_rule.specs.GreedyOrder.{position}
use Rattle.greedy_rule.specs.LowestPlace.{BlockedBy, TakesLowest}
use Rattle.greedy_rule.proofs.GreedyOrder.{position_listed, before_says, before_of}
use Rattle.greedy_rule.proofs.PlanByPosition.{stage, placed_from, plan_takes, stage_is_plan}

module _ (g : ℕ) (t : List ℤ) where
  -- So it is for every row that is not fixed.
  pub rest_takes_lowest : (r : ℕ) → r < rows t → fixed t r ≡ false → TakesLowest g t r
  unfolding offset_for
  rest_takes_lowest r l e = record {
    clear = λ b m h c.
        let p = before_of g t b r m l e h in
        free.clear b m (come b m p) (subst (λ (o : ℕ). Colliding (buffer_at g t r (greedy_plan g t r)) (buffer_at g t b o)) (sym (stage_is_plan g t b m _ within p)) c);
    blocked = λ q h. earlier q (free.blocked q h);
  }
    where
      within : position g t r ≤ rows t
      within = omega (arith, (position_listed g t r l).0)

      took : greedy_plan g t r ≡ lowest g t (stage g t (position g t r)) r
      took = plan_takes g t r l ∙ rw (e, offset_for)

      free : LowestFree g t (stage g t (position g t r)) r (greedy_plan g t r)
      free = rw took (lowest_free g t (stage g t (position g t r)) r)

      come : (b : ℕ) → b < rows t → position g t b < position g t r → (stage g t (position g t r)).placed b ≡ true
      come b m p = placed_from g t b m (position g t r) within ∙ lt-ltb _ _ p

      earlier : (q : ℕ) → Blocker g t (stage g t (position g t r)) r q → BlockedBy g t r q
      earlier q x =
          let p : position g t x.row < position g t r = ltb-true _ _ (sym (placed_from g t x.row x.within (position g t r) within) ∙ x.placed) in
          record {
            row = x.row;
            within = x.within;
            earlier = before_says g t x.row r x.within l e p;
            collides = subst (λ (o : ℕ). Colliding (buffer_at g t r q) (buffer_at g t x.row o)) (stage_is_plan g t x.row x.within _ within p) x.collides;
          }
