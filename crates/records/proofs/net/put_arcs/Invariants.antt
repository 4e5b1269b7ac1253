use Rattle.std.proofs.Common.{length}
use Rattle.records.specs.internal.Put.{arc_put, den_of, num_of}
use Rattle.records.proofs.Put.{Turned}
use Rattle.records.proofs.net.put_arcs.Given as goal

abbrev pub invariant-loop-j : goal.invariant-loop-j
invariant-loop-j l = Turned (arc_put num_of l.arcs l.n) (length l.arcs) l.initial.out l.out l.j × Turned (arc_put den_of l.arcs l.n) (length l.arcs) l.initial.dens l.dens l.j
