use Rattle.loops.proofs.Laws.{Counted, Filled}
use Rattle.network.specs.Network.{is_here}
use Rattle.survivors.specs.Survivors.{rank_of}
use Rattle.survivors.proofs.node_ranks.Given as goal

abbrev pub invariant-loop-i : goal.invariant-loop-i
invariant-loop-i l = Filled (rank_of l.fn.net) 33 l.initial.at l.at l.i × Counted (λ k. is_here l.fn.net k) 33 l.i l.d
