use mathlib.Core.Path.{◌≡◌}
use Rattle.network.proofs.Linked.{Linked}
use Rattle.network.specs.ArcList.{net_in}
use Rattle.network.specs.Legal.{Legal}
use Rattle.network.specs.declared.Nodes.{Nodes}
use Rattle.network.proofs.list.parallels.Given as goal

abbrev pub invariant-loop-k : goal.invariant-loop-k
invariant-loop-k l = (nodes : Nodes) → nodes.m ≡ l.m → Legal (net_in nodes l.arcs) → Linked (net_in nodes l.arcs) l.next l.last l.k
