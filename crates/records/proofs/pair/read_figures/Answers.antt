-- `records::pair::read_figures` meets its contract.
use native.Mathlib.Omega.{arith}
use Rattle.loops.proofs.Laws.{filled-whole, filled_more, filled_none}
use Rattle.records.proofs.pair.read_figures.Goals as goal

pub loop-k-init : goal.loop-k-init
loop-k-init c = filled_none _ _ _

pub loop-k-preserved : goal.loop-k-preserved
loop-k-preserved c = filled_more c.loop-k.invariant (omega arith) (omega arith) c.figure_at.ensures

pub returns : goal.returns
returns c = filled-whole c.loop-k.invariant (omega arith) (omega arith)
