use Rattle.network.proofs.Tally.{Tallied}
use Rattle.network.specs.ArcList.{net_in}
use Rattle.network.specs.declared.Nodes.{Nodes}
use Rattle.network.proofs.list.degrees.Given as goal

abbrev pub invariant-loop-j : goal.invariant-loop-j
invariant-loop-j l = (nodes : Nodes) → Tallied (net_in nodes l.arcs) l.at l.j
