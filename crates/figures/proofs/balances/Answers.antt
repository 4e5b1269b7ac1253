-- What is seen of the list at a node's place is the node's own balance.
use Rattle.std.proofs.Common.{◌≡◌, ◌+◌, List, length, arith, refl, rules, ap, ◌∙◌}
use Rattle.std.proofs.Math.ListN.{get_or-replicate, length-set}
use Rattle.loops.specs.Loops.{upto}
use Rattle.fraction.specs.Exact.{Worked, zero_fraction, no_figure}
use Rattle.std.specs.Prelude.{Ok}
use Rattle.network.specs.Network.{arc_at}
use Rattle.network.specs.Pair.{flow_at}
use Rattle.figures.proofs.Laws.{upto_seen}
use Rattle.figures.proofs.Added.{added}
use Rattle.figures.specs.Figures.{balance_turn, balance_of}
use Rattle.figures.specs.internal.Listed.{sum_at, with_arc}
use Rattle.figures.proofs.balances.Goals as goal

pub returns : goal.returns
unfolding balance_of
returns c = λ i h.
    let e = c.over_arcs.ensures (λ j s. with_arc s (arc_at c.args.net.now (j + 1)) (flow_at c.args.pair.now (j + 1))) (λ j s r p. search rules) in
    let k = upto_seen (λ (s : List Worked). length s ≡ 34) (λ s. sum_at s i) _ (balance_turn c.args.net.now c.args.pair.now i) (λ j s n. (length-set _ _ _ ∙ length-set _ _ _ ∙ n, added s _ _ i n h)) c.args.net.now.m _ refl in
    rw e (k.1 ∙ ap (upto (balance_turn c.args.net.now c.args.pair.now i) c.args.net.now.m) (get_or-replicate {A = Worked} 34 i (Ok zero_fraction) (Ok no_figure) (omega arith)))
