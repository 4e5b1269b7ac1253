-- An arc and its flow are read in place, and beyond the last number there is none.
use Rattle.std.proofs.Common.{arith}
use Rattle.loops.proofs.Laws.{folded-all, folded_more, folded-none}
use Rattle.figures.proofs.over_arcs.Goals as goal

pub loop-j-init : goal.loop-j-init
loop-j-init g c = λ f h. folded-none _ _ _

pub loop-j-preserved : goal.loop-j-preserved
loop-j-preserved g c = λ f h. folded_more _ (c.loop-j.invariant f h) (omega arith) (h _ _ _ (rw (c.arc_at-t.ensures, c.figure_at-x.ensures) at c.turn.ensures))

pub returns : goal.returns
returns g c = λ f h. folded-all _ (c.loop-j.invariant f h) (omega arith)
