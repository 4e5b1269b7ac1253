use Prim.Native.Nat.{◌-◌, ◌≤◌}
use Rattle.closed_arc.specs.ClosedArc.{closed_arc}
use Rattle.costly_arc.proofs.Upward.{Reached}
use Rattle.network.specs.ArcList.{net_in}
use Rattle.step.specs.declared.Next.TheVariants.{Stops}
use Rattle.search.proofs.scan.Working.closed.Given as goal

abbrev pub invariant-loop-j : goal.invariant-loop-j
invariant-loop-j l = (l.self.nodes.now.m ≤ 96) × Reached (closed_arc (net_in l.self.nodes.now l.self.arcs.now)) 1 96 Stops l.j

abbrev pub decreases-loop-j : goal.decreases-loop-j
decreases-loop-j l = 97 - l.j
