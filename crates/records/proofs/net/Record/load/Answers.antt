-- `records::net::Record::load` meets its contract.
use Rattle.loops.proofs.Laws.{folded-all, folded_more, folded-none}
use native.Mathlib.Omega.{arith}
use Rattle.records.proofs.net.Record.load.Goals as goal

pub loop-j-init : goal.loop-j-init
loop-j-init c = folded-none _ _ _

pub loop-j-preserved : goal.loop-j-preserved
loop-j-preserved c = folded_more _ c.loop-j.invariant (omega arith) (rw c.arc.ensures at c.replace.ensures)

pub returns : goal.returns
returns c = folded-all _ c.loop-j.invariant (omega arith)
