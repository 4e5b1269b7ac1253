use Prim.Native.Nat.{◌≤◌}
use Rattle.loops.proofs.Laws.{Folded}
use Rattle.survivors.specs.Survivors.{pack_arc}
use Rattle.survivors.proofs.pack_arcs.Given as goal

abbrev pub invariant-loop-t : goal.invariant-loop-t
invariant-loop-t l = Folded (pack_arc l.fn.net) 96 l.initial.q l.t-index l.q × (l.q.m ≤ l.t-index)
