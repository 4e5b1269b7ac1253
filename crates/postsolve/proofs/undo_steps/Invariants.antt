use Rattle.postsolve.specs.Postsolve.{arcs_turn}
use Rattle.postsolve.specs.internal.Turn.{back_turn}
use Rattle.postsolve.proofs.Steps.{Descended}
use Rattle.postsolve.proofs.undo_steps.Given as goal

abbrev pub invariant-loop-k : goal.invariant-loop-k
invariant-loop-k l = Descended (back_turn l.log) l.steps l.initial.back l.k l.back × Descended (arcs_turn l.log) l.steps l.initial.arcs l.k l.arcs
