use Rattle.text.specs.Pass.{ended}
use Rattle.text.proofs.Words.{passing-all, passing-more, passing-none, stored-none}
use Rattle.text.proofs.pass.Goals as goal
use Rattle.text.proofs.pass.Goals.{then-is_separator, else-is_separator}

pub loop-b-init : goal.loop-b-init
loop-b-init c = passing-none _ _

pub loop-b-preserved : goal.loop-b-preserved
unfolding ended
loop-b-preserved c =
    passing-more c.loop-b.invariant c.loop-b-test.true
    (elim c.if-is_separator.branch [
      | then-is_separator w ↦ rw (← c.is_separator.ensures, w.if-is_separator.true, w.count-is, w.words-is) w.end_word-count.ensures
      | else-is_separator w ↦ rw (← c.is_separator.ensures, w.if-is_separator.false, w.count-is, w.words-is) (stored-none _ _)
    ])
    c.step-state.ensures

pub returns : goal.returns
returns c =
    rw (c.close.ensures, c.after_separator.ensures) (passing-all c.loop-b.invariant c.loop-b-test.false c.end_word-n.ensures)
