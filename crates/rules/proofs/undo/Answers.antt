use Rattle.parallel_arcs.specs.ParallelArcs.{parallel_back}
use Rattle.step.specs.Run.{rule_from}
use Rattle.rules.proofs.undo.Goals as goal

pub returns-in-1 : goal.returns-in-1
unfolding rule_from
returns-in-1 c = rw c.in-1.is (c.lower_back.ensures _)

pub returns-in-2 : goal.returns-in-2
unfolding rule_from
returns-in-2 c = rw c.in-2.is (c.bare_back.ensures _)

pub returns-in-4 : goal.returns-in-4
unfolding rule_from
returns-in-4 c = rw c.in-4.is (c.lower_back-in-4.ensures _)

pub returns-in-7 : goal.returns-in-7
unfolding rule_from parallel_back
returns-in-7 c = rw (c.in-7.is, ← c.flow_at.ensures) c.parallel_back.ensures
