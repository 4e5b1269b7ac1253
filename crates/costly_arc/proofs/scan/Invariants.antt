use Rattle.costly_arc.proofs.Going.{Going}
use Rattle.costly_arc.specs.Seen.{Known}
use Rattle.costly_arc.proofs.scan.Given as goal

abbrev pub invariant-loop-j : goal.invariant-loop-j
invariant-loop-j l = Known l.net l.now l.initial.known → Going l.net l.now l.initial.known l.known l.j
