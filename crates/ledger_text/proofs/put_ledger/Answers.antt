-- `ledger_text::put_ledger` meets its contract: the lines of the kinds so far are put, none longer than a line can be.
use native.Mathlib.Omega.{arith}
use Rattle.text_pieces.proofs.Pieces.{lines_more}
use Rattle.text_pieces.proofs.Put.{put_no_line, put_both}
use Rattle.ledger_text.proofs.put_ledger.Goals as goal

pub loop-code-init : goal.loop-code-init
loop-code-init c = (put_no_line _ _ _ (omega arith), omega arith, omega arith)

pub loop-code-preserved : goal.loop-code-preserved
loop-code-preserved c =
    let put = c.put_line-next.ensures in (
      rw lines_more (put_both c.loop-code.invariant.0 put.line),
      omega (arith, put.short, c.loop-code.invariant.1),
      omega (arith, c.loop-code-test.true),
    )
