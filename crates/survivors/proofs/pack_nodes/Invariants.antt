use Prim.Native.Nat.{◌≤◌}
use lib.ListN.{length}
use Rattle.loops.proofs.Laws.{Folded}
use Rattle.survivors.specs.Survivors.{pack_node}
use mathlib.Core.Path.{◌≡◌}
use Rattle.survivors.proofs.pack_nodes.Given as goal

abbrev pub invariant-loop-here : goal.invariant-loop-here
invariant-loop-here l = Folded (pack_node l.fn.net) 32 l.initial.p (length l.yielded) l.p × (l.p.n ≤ length l.yielded) × (l.p.m ≡ 0)
