-- `greedy_planner::need::need_of` meets its contract: the greatest end of the rows so far.
use Rattle.request_table.specs.Needs.{Needing}
use Rattle.greedy_rule.specs.Greedy.{greedy_plan}
use Rattle.greedy_planner.proofs.need.need_of.Given as goal

abbrev pub invariant-loop-row : goal.invariant-loop-row
invariant-loop-row l = Needing l.table.grid l.table.words.now (greedy_plan l.table.grid l.table.words.now) l.need l.row
