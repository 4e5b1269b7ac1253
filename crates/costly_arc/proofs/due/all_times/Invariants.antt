use Rattle.costly_arc.proofs.NodeTimes.{Timed}
use Rattle.costly_arc.proofs.due.all_times.Given as goal

abbrev pub invariant-loop-k : goal.invariant-loop-k
invariant-loop-k l = Timed l.fn.net l.seen l.at l.k
