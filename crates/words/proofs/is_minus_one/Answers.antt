-- `words::is_minus_one` meets its contract: by the word's bits.
use Rattle.std.proofs.Common.{ap, ◌∙◌}
use Rattle.words.specs.Words.{is_minus_one}
use Rattle.words.proofs.Signed.{minus_one}
use Rattle.words.proofs.is_minus_one.Goals as goal

pub returns : goal.returns
returns c = minus_one c.word_at.result c.word_at.type_inv ∙ ap is_minus_one c.word_at.ensures
