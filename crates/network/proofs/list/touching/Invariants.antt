use Prim.Native.Nat.{◌+◌, ◌-◌}
use Rattle.loops.proofs.Laws.{Scanned}
use Rattle.network.specs.ArcList.{net_in}
use Rattle.network.specs.Network.{or_next, touch_at}
use Rattle.network.specs.declared.Nodes.{Nodes}
use Rattle.network.proofs.list.touching.Given as goal

abbrev pub invariant-loop-j : goal.invariant-loop-j
invariant-loop-j l = (nodes : Nodes) → Scanned or_next 0 (touch_at (net_in nodes l.arcs) l.i) (96 - l.k) (l.k + 1) l.j
