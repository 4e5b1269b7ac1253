use Rattle.network.specs.ArcList.{net_in}
use Rattle.search.proofs.Pairs.{Chain, left}
use Rattle.search.proofs.scan.Working.pairs.Given as goal

abbrev pub invariant-loop-k : goal.invariant-loop-k
invariant-loop-k l = Chain (net_in l.self.nodes.now l.self.arcs.now) l.j l.k

abbrev pub decreases-loop-k : goal.decreases-loop-k
decreases-loop-k l = left l.k
