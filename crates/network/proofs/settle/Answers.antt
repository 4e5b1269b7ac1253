use mathlib.Core.Path.{◌∙◌, ap}
use Rattle.network.specs.declared.Nodes.{Nodes}
use Rattle.network.specs.Network.{with_arc, with_supply, without, with_constant, with_updates, updates_of, applied}
use Rattle.network.specs.ArcList.{nodes_of, joined}
use Rattle.network.proofs.settle.Goals as goal

pub returns : goal.returns
unfolding applied with_arc with_supply without
returns c =
    λ xs.
    let d = c.args.c in
    let ys = (with_updates (joined c.args.nodes xs) (updates_of d)).arcs in
    ap (λ (n : Nodes). nodes_of (with_constant (joined n ys) d.constant))
    (c.drop_node-b.ensures ys
    ∙ ap (λ (n : Nodes). nodes_of (without (joined n ys) d.gone))
    (c.put_supply.ensures ys ∙ ap (λ (n : Nodes). nodes_of (with_supply (joined n ys) d.right.node d.right.supply)) (c.put_supply-a.ensures ys)))
