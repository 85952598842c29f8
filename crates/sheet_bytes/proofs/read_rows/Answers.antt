-- `sheet_bytes::read_rows` meets its contract: the words of the part behind the head are those from its end on.
use mathlib.Core.List.{List, ◌++◌}
use mathlib.Core.Path.{◌∙◌, ap}
use lib.IntN.{ℤ}
use lib.ListN.{drop}
use lib.Seq.{length-take-le}
use Rattle.word_lists.specs.WordLists.{words_from}
use Rattle.word_lists.proofs.WordsComeBack.{words_of_part}
use Rattle.sheet_bytes.proofs.read_rows.Goals as goal

pub returns : goal.returns
returns c =
    let s = c in
    ap (λ (xs : List ℤ). xs ++ drop s.args.count s.args.words.now)
    (c.read_words.ensures ∙ ap (words_from _ 0) (length-take-le _ _ s.requires.1) ∙ words_of_part s.args.sheet.now 11 s.args.count)
