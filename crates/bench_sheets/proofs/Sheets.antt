-- Laws of the definitions of specs/Sheets.antt.
use Rattle.std.specs.Prelude.{map, ◌≡◌, refl}
use Rattle.alignment.specs.Alignments.{loss, allowed}
use Rattle.alignment.specs.Powers.{is_power_of_two}
use Rattle.alignment.specs.Rounding.{rounded_up, rounded_down}
use Rattle.arena_sections.specs.History.{after}
use Rattle.arena_sections.specs.Sections.{valid, not_usable, open_of, persistent_full, persistent_of, temp_full, temp_of, head_of}
use Rattle.bounded.specs.Count.{one, count}
use Rattle.bounded.specs.First.{first_from, first_in, holds_below}
use Rattle.bounded.specs.Greatest.{greatest}
use Rattle.bounded.specs.Last.{last_in}
use Rattle.bounded.specs.InOrder.{rank, at_rank, in_order}
use Rattle.bounded.specs.Listed.{list_from}
use Rattle.bounded.specs.Pair.{partner, has_partner, pair_below, pair_first, pair_second}
use Rattle.bounded.specs.Replaced.{replaced}
use Rattle.bounded.specs.TwoEach.{two_each}
use Rattle.words.specs.Words.{natural, is_minus_one}
use Rattle.request_table.specs.Buffers.{live_together, share_byte, collides, end_or_zero, need}
use Rattle.request_table.specs.Table.{request, good}
use Rattle.placement.specs.Placing.{put, free, top, lowest, offset_for, placing, place}
use Rattle.greedy_rule.specs.Greedy.{larger_first, fixed_rows, greedy_order, greedy_plan}
use Rattle.greedy_rule.specs.Plan.{fixed_collide, greedy_need, plan_of, planned_table}
use Rattle.lifetime_rule.specs.FromUses.{out_of_limits, lifetimes_of, final_lifetimes}
use Rattle.lifetime_rule.specs.Lifetimes.{names, named, gives_out, is_output, first_of, last_of, unnamed, lets, readable, too_early}
use Rattle.lifetime_rule.specs.Uses.{use_at, good as good_use}
use Rattle.bench_sheets.specs.Sheets.{Sheet, sheets}

-- The two columns are equal.
pub sheets_hold : map (λ (s : Sheet). s.given) sheets ≡ map (λ (s : Sheet). s.wanted) sheets
unfolding one count first_from first_in holds_below greatest list_from rank at_rank in_order partner has_partner pair_below pair_first pair_second replaced natural is_minus_one rounded_up rounded_down is_power_of_two loss allowed live_together share_byte collides end_or_zero need request good put free top lowest offset_for placing place larger_first fixed_rows greedy_order greedy_plan fixed_collide greedy_need plan_of planned_table valid not_usable open_of persistent_full persistent_of temp_full temp_of head_of after last_in two_each use_at good_use names named gives_out is_output first_of last_of unnamed lets readable too_early out_of_limits lifetimes_of final_lifetimes
sheets_hold = refl
