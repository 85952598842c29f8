-- `words::natural` meets its contract: by the word's sign.
use Rattle.std.proofs.Common.{ap, ◌∙◌}
use Rattle.words.specs.Words.{natural}
use Rattle.words.proofs.Signed.{read, negative, itself}
use Rattle.words.proofs.natural.Goals as goal

pub returns-then-word-lt0 : goal.returns-then-word-lt0
returns-then-word-lt0 c =
    negative c.word_at-word.result (rw (read c.word_at-word.result c.word_at-word.type_inv) at c.if-word-lt0.true) ∙ ap natural c.word_at-word.ensures

pub returns : goal.returns
returns c =
    let back = read c.word_at-word.result c.word_at-word.type_inv in
    rw back (itself c.word_at-word.result (rw back at c.if-word-lt0.false) ∙ ap natural c.word_at-word.ensures)
