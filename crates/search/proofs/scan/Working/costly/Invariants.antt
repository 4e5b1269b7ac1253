use Prim.Native.Nat.{◌+◌, ◌-◌, ◌≤◌}
use Rattle.loops.proofs.Laws.{Missed}
use Rattle.network.specs.ArcList.{net_in}
use Rattle.costly_arc.specs.Seen.{Known}
use Rattle.search.proofs.Scans.{root_at}
use Rattle.search.proofs.scan.Working.costly.Given as goal

abbrev pub invariant-loop-j : goal.invariant-loop-j
invariant-loop-j l = (l.self.nodes.now.m ≤ 96) × Missed (root_at (net_in l.self.nodes.now l.self.arcs.now)) (l.self.nodes.now.m + 1) l.j × Known (net_in l.self.nodes.now l.self.arcs.now) l.time l.seen

abbrev pub decreases-loop-j : goal.decreases-loop-j
decreases-loop-j l = 97 - l.j
