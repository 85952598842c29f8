-- Law: in an accepted plan, a touch of a living byte falls below its row's end, so below the need, so below the space: no touch leaves the arena.
use Rattle.std.specs.Prelude.{ℕ, ◌<◌, ◌≤◌, true, List, ◌≡◌, ℤ}
use Rattle.std.proofs.Common.{arith}
use Rattle.request_table.specs.Buffers.{buffer_at, end}
use Rattle.request_table.proofs.Needs.{need_bounds}
use Rattle.alignment.proofs.Rounding.{up_holds, up_something}
use Rattle.request_table.specs.Table.{request}
use Rattle.inspection_rule.proofs.ExactRule.{passed_says}
use Rattle.inspection_rule.specs.Inspect.{proposed, proposed_need, inspect_of}
use Rattle.access_rule.specs.Accesses.{access, good}
use Rattle.access_rule.specs.GoodAccesses.{Reaches}
use Rattle.access_rule.proofs.GoodAccesses.{good_says}
use Rattle.access_rule.specs.Run.{byte_of}
use Rattle.access_rule.specs.declared.Access.{Access}

module _ (g : ℕ) (t : List ℤ) (o : List ℤ) (h : 0 < g) (a : Access) (r : Reaches t a) where
  -- The byte is below the row's end,
  pub below_end : byte_of o a < end (buffer_at g t a.row.0 (proposed o a.row.0))
  unfolding byte_of
  below_end = omega (arith, r.inside, up_holds g (request t a.row.0).size h)

  -- which is at most the need.
  pub end_needed : end (buffer_at g t a.row.0 (proposed o a.row.0)) ≤ proposed_need g t o
  unfolding proposed_need
  end_needed = need_bounds g t (proposed o) a.row.0 r.named (up_something g (request t a.row.0).size h (omega (arith, r.inside)))

-- A good touch of an accepted plan falls below the space.
pub inside : (g : ℕ) (t : List ℤ) (space : ℕ) (o s : List ℤ) → 0 < g → (inspect_of g t space o).number ≡ 0 → (k : ℕ) → good t s k ≡ true → byte_of o (access s k) < space
inside g t space o s h e k d =
    let r = (good_says t s k d).1 in
    omega (arith, below_end g t o h (access s k) r, end_needed g t o h (access s k) r, (passed_says g t space o e).within_space)
