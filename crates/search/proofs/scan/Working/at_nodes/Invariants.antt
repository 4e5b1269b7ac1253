use Prim.Native.Nat.{◌-◌, ◌≤◌}
use Rattle.costly_arc.proofs.Upward.{Reached}
use Rattle.network.specs.ArcList.{net_in}
use Rattle.rules.specs.Table.{rules}
use Rattle.step.specs.Run.{rule_of}
use Rattle.step.specs.declared.Next.TheVariants.{Stops}
use Rattle.search.proofs.scan.Working.at_nodes.Given as goal

abbrev pub invariant-loop-i : goal.invariant-loop-i
invariant-loop-i l = (1 ≤ l.i) × (l.self.nodes.now.n ≤ 32) × Reached ((rule_of rules l.k).at (net_in l.self.nodes.now l.self.arcs.now)) l.k 32 Stops l.i

abbrev pub decreases-loop-i : goal.decreases-loop-i
decreases-loop-i l = 33 - l.i
