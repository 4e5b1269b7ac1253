use Prim.Native.Nat.{◌+◌}
use lib.ListN.{length}
use Rattle.loops.proofs.Laws.{Filled}
use Rattle.records.specs.Arrays.{figure_at}
use Rattle.records.proofs.pair.read_figures.Given as goal

abbrev pub invariant-loop-k : goal.invariant-loop-k
invariant-loop-k l = Filled (λ k. figure_at l.words l.t (l.from + k)) (length l.fn.figures) l.fn.figures l.figures l.k
