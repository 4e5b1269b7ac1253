use Rattle.std.proofs.Common.{◌≡◌, ℕ, ◌+◌, MutBor}
use Rattle.loops.proofs.Laws.{Folded}
use Rattle.network.specs.Network.{arc_at}
use Rattle.network.specs.Pair.{flow_at}
use Rattle.figures.proofs.over_arcs.Given as goal

abbrev pub invariant-loop-j : goal.invariant-loop-j
invariant-loop-j g l =
    (f : ℕ → _ → _)
    → ((j : ℕ) (s r : MutBor _) → goal.F-post g l.turn s (arc_at l.net (j + 1)) (flow_at l.pair (j + 1)) tt r → r.now ≡ f j s.now)
    → Folded f l.net.m l.initial.s l.j l.s
