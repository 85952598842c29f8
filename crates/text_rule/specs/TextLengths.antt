-- How long a text can be: no text over at most `greatest_rows` offsets is longer than `greatest_text`. The bound of the rows is proved for any number of them.
use Rattle.std.specs.Prelude.{◌^◌, ◌<◌}
use Rattle.answer.specs.declared.Answer.{Answer}

-- The numbers of an answer are as wide as the code holds them: three of 32 bits, the need of 64.
pub record Held (x : Answer) : Type 0 where
  pub number_held : x.number < 2 ^ 32
  pub a_held : x.a < 2 ^ 32
  pub b_held : x.b < 2 ^ 32
  pub need_held : x.need < 2 ^ 64
