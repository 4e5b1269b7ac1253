use Rattle.std.specs.Prelude.{Err}
use Prim.Native.Nat.{◌+◌, ◌-◌}
use Rattle.loops.proofs.Laws.{Scanned}
use Rattle.network.specs.Network.{arc_at}
use Rattle.parallel_arcs.specs.ParallelArcs.{alike, or_next}
use Rattle.step.specs.declared.Halt.TheVariants.{Passes}
use Rattle.parallel_arcs.proofs.parallel_arc.Given as goal

abbrev pub invariant-loop-k : goal.invariant-loop-k
invariant-loop-k l = Scanned or_next (Err Passes) (λ i. alike l.net.constant l.j l.t i (arc_at l.net i)) (96 - l.j) (l.j + 1) l.k

abbrev pub decreases-loop-k : goal.decreases-loop-k
decreases-loop-k l = 97 - l.k
