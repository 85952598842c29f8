-- Law: what a valid state is, in plain terms.
use Rattle.std.specs.Prelude.{◌≤◌}
use Rattle.arena_sections.specs.Sections.{greatest_length}
use Rattle.arena_sections.specs.declared.Sections.{Sections}

-- "head ≤ temp ≤ tail ≤ usable ≤ 16,777,216".
pub record Ordered (s : Sections) : Type 0 where
  pub head_temp : s.head ≤ s.temp
  pub temp_tail : s.temp ≤ s.tail
  pub tail_usable : s.tail ≤ s.usable
  pub in_limit : s.usable ≤ greatest_length
