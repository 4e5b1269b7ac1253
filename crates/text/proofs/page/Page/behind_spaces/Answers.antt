use Rattle.std.proofs.Common.{arith, get_or, pos}
use Rattle.integer.specs.Machine.{back32}
use Rattle.text.specs.Line.{behind_spaces}
use Rattle.text.proofs.Pages.{prints_none, prints_word}
use Rattle.text.proofs.page.Page.behind_spaces.Goals as goal

pub loop-w-init : goal.loop-w-init
unfolding behind_spaces
loop-w-init c = prints_none _

pub loop-w-preserved : goal.loop-w-preserved
loop-w-preserved c =
    prints_word _ c.loop-w.invariant c.loop-w-test.true c.bytes.ensures (rw (back32 (get_or c.args.words.now c.loop-w.w-index (pos 0)) (omega arith)) at c.number.ensures)
