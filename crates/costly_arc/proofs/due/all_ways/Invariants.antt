use Rattle.costly_arc.specs.internal.Due.{both_of}
use Rattle.loops.proofs.Laws.{Filled}
use Rattle.costly_arc.proofs.due.all_ways.Given as goal

abbrev pub invariant-loop-k : goal.invariant-loop-k
invariant-loop-k l = Filled (both_of l.fn.net l.seen l.p l.q l.t) 97 l.initial.ways l.ways l.k
