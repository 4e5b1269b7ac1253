use Prim.Native.Nat.{◌-◌, ◌≤◌}
use Rattle.costly_arc.proofs.Upward.{Reached}
use Rattle.network.specs.ArcList.{net_in}
use Rattle.parallel_arcs.specs.ParallelArcs.{parallel_arc}
use Rattle.step.specs.declared.Next.TheVariants.{Stops}
use Rattle.search.proofs.scan.Working.parallel.Given as goal

abbrev pub invariant-loop-j : goal.invariant-loop-j
invariant-loop-j l = (l.self.nodes.now.m ≤ 96) × Reached (parallel_arc (net_in l.self.nodes.now l.self.arcs.now)) 7 96 Stops l.j

abbrev pub decreases-loop-j : goal.decreases-loop-j
decreases-loop-j l = 97 - l.j
