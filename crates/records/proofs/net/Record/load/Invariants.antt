use Prim.Native.Nat.{◌-◌}
use Rattle.records.specs.Network.{figures, load_turn}
use Rattle.loops.proofs.Laws.{Folded}
use Rattle.records.proofs.net.Record.load.Given as goal

abbrev pub invariant-loop-j : goal.invariant-loop-j
invariant-loop-j l = Folded (load_turn l.self.words.now l.self.n (figures l.self.n l.self.m)) l.self.m l.initial.arcs l.j l.arcs

abbrev pub decreases-loop-j : goal.decreases-loop-j
decreases-loop-j l = l.self.m - l.j
