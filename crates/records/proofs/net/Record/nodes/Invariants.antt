use Prim.Native.Nat.{◌+◌}
use Rattle.loops.proofs.Laws.{Filled}
use Rattle.records.specs.Arrays.{figure_at}
use Rattle.records.specs.Network.{figures}
use Rattle.records.proofs.net.Record.nodes.Given as goal

abbrev pub invariant-loop-i : goal.invariant-loop-i
invariant-loop-i l = Filled (λ i. figure_at l.self.words.now (figures l.self.n l.self.m) (i + 1)) l.self.n l.initial.supply-items l.supply-items l.i
