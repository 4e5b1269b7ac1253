use Prim.Native.Nat.{◌≤◌}
use Rattle.costly_arc.specs.Seen.{Known}
use Rattle.network.specs.ArcList.{net_in}
use Rattle.search.proofs.Scans.{From}
use Rattle.search.proofs.scan.Working.next.Given as goal

abbrev pub invariant-loop-k : goal.invariant-loop-k
invariant-loop-k l = (2 ≤ l.k) × From (net_in l.self.nodes.now l.self.arcs.now) l.k × Known (net_in l.self.nodes.now l.self.arcs.now) l.time l.seen
