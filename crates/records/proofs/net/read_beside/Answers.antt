-- `records::net::read_beside` meets its contract.
use mathlib.Core.Path.{◌≡◌, ap}
use mathlib.Core.List.{List}
use Prim.Native.Nat.{ℕ}
use lib.IntN.{ℤ}
use Rattle.loops.specs.Loops.{upto}
use Rattle.loops.proofs.Laws.{upto-keeps}
use Rattle.network.specs.declared.Arc.{Arc}
use Rattle.network.specs.declared.Net.{Net}
use Rattle.network.specs.declared.Nodes.{Nodes}
use Rattle.network.specs.Network.{empty_net, with_arc}
use Rattle.network.specs.ArcList.{joined, no_arcs, nodes_of}
use Rattle.records.specs.Arrays.{figure_at}
use Rattle.records.specs.Network.{arc_turn, figures, net_of, node_turn, read_of}
use Rattle.records.proofs.net.read_beside.Goals as goal

-- the arcs' turns leave the nodes alone
nodes-of : (xs : List ℤ) (n m : ℕ) (r : Nodes) → ((arcs : List Arc) → joined r arcs ≡ upto (node_turn xs (figures n m)) n (joined (nodes_of (empty_net n m (figure_at xs (figures n m) 0))) arcs)) → r ≡ nodes_of (net_of xs n m)
unfolding net_of with_arc
nodes-of xs n m r e = upto-keeps (λ (net : Net). r ≡ nodes_of net) (arc_turn xs n (figures n m)) (λ j net h. h) m _ (ap nodes_of (e (no_arcs 97)))

pub returns-in-Some : goal.returns-in-Some
unfolding read_of
returns-in-Some c =
    let h = c.in-Some.ensures in
    rw (h.0, ← h.2, ← h.3, ← h.1) (nodes-of _ _ _ _ c.nodes.ensures)

pub returns-in-None : goal.returns-in-None
unfolding read_of
returns-in-None c = let h = c.in-None.ensures in rw h c.no_nodes.ensures
