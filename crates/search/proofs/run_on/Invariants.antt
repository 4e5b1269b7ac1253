use Prim.Native.Nat.{◌-◌}
use Rattle.network.specs.ArcList.{net_in}
use Rattle.rules.specs.Table.{reduced}
use Rattle.search.proofs.Runs.{Underway}
use Rattle.search.proofs.run_on.Given as goal

abbrev pub invariant-loop-step : goal.invariant-loop-step
invariant-loop-step l = Underway (reduced (net_in l.initial.at.nodes l.initial.arcs)) l.initial.log l.initial.arcs l.at l.log l.arcs

abbrev pub decreases-loop-step : goal.decreases-loop-step
decreases-loop-step l = 129 - l.at.steps
