use Rattle.costly_arc.specs.internal.Due.{is_due_from}
use Rattle.loops.proofs.Laws.{Missed}
use Rattle.costly_arc.proofs.due.any_due_pair.Given as goal

abbrev pub invariant-loop-k : goal.invariant-loop-k
invariant-loop-k l = Missed (is_due_from l.seen l.w l.fn.ways l.c) 97 l.k
