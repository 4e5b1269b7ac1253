-- All arcs are asked what each turn asks of its arc.
use Rattle.std.proofs.Common.{◌+◌, refl, rules}
use Rattle.network.specs.Network.{arc_at}
use Rattle.network.specs.Pair.{flow_at}
use Rattle.figures.specs.declared.Arcs.{Arcs}
use Rattle.figures.specs.Figures.{reduced_cost}
use Rattle.figures.specs.internal.Listed.{asked}
use Rattle.figures.proofs.Laws.{upto_all}
use Rattle.figures.proofs.ask_arcs.Goals as goal

pub returns : goal.returns
unfolding reduced_cost
returns c =
    let e = c.over_arcs.ensures (λ j a. asked a (arc_at c.args.net.now (j + 1)) (flow_at c.args.pair.now (j + 1)) c.args.pair.now.price) (λ j a r p. search rules) in
    rw e (upto_all (λ (a : Arcs). a.fit) _ _ (λ j s. refl) _ _ refl, upto_all (λ (a : Arcs). a.within) _ _ (λ j s. refl) _ _ refl, upto_all (λ (a : Arcs). a.kept) _ _ (λ j s. refl) _ _ refl)
