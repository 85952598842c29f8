-- `offline_plan::read_plan` meets its contract: a refusal stands; past it the words behind the head are the offsets.
use Rattle.std.proofs.Common.{arith, List, ◌++◌, ℤ, drop, sym, ◌∙◌, ap}
use lib.Seq.{length-take-le}
use Rattle.answer.specs.Answer.{number_of}
use Rattle.answer.proofs.Told.{refusal_refuses}
use Rattle.offline_rule.proofs.Answers.{read_says, done_read, refusal_keeps_offsets}
use Rattle.word_lists.specs.WordLists.{words_from}
use Rattle.word_lists.proofs.WordsComeBack.{words_of_part}
use Rattle.offline_plan.proofs.read_plan.Goals as goal

pub returns-in_err-check-clause-table : goal.returns-in_err-check-clause-table
returns-in_err-check-clause-table c = sym (refusal_keeps_offsets _ _ _ (refusal_refuses _ c.in_err-check.ensures))

pub slice_bounds-read_words-count : goal.slice_bounds-read_words-count
slice_bounds-read_words-count c = omega (arith, (read_says _ _ _ (ap number_of (sym c.in_ok-check.ensures))).whole)

pub slice_bounds-read_words-start : goal.slice_bounds-read_words-start
slice_bounds-read_words-start c = omega (arith, (read_says _ _ _ (ap number_of (sym c.in_ok-check.ensures))).whole)

pub slice_bounds-read_words-end-2 : goal.slice_bounds-read_words-end-2
slice_bounds-read_words-end-2 c = (read_says _ _ _ (ap number_of (sym c.in_ok-check.ensures))).roomy

pub slice_bounds-read_words-end-3 : goal.slice_bounds-read_words-end-3
slice_bounds-read_words-end-3 c = sym (length-take-le _ _ (read_says _ _ _ (ap number_of (sym c.in_ok-check.ensures))).roomy)

pub returns-clause-table : goal.returns-clause-table
returns-clause-table c =
    let a = c.args in
    let z = ap number_of (sym c.in_ok-check.ensures) in
    let words = c.read_words.ensures ∙ ap (words_from _ 0) (length-take-le _ _ (read_says _ _ _ z).roomy) ∙ words_of_part a.bytes.now 12 a.tensors in
    ap (λ (xs : List ℤ). xs ++ drop a.tensors a.offsets.now) words ∙ sym (done_read _ _ _ z)
