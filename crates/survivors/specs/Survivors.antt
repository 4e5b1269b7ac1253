-- What is left of a network, numbered from 1 (01, "Records"), and a pair of it at the original numbers.
use Rattle.std.specs.Prelude.{cond, ◌&&◌, ℕ, ◌+◌, ltb, leb}
use Rattle.loops.specs.Loops.{build, count, upto}
use Rattle.fraction.specs.declared.Fraction.{Fraction}
use Rattle.fraction.specs.Exact.{zero_fraction}
use Rattle.network.specs.declared.Arc.{Arc}
use Rattle.network.specs.declared.Net.{Net}
use Rattle.network.specs.declared.pair.Pair.{Pair}
use Rattle.network.specs.Limits.{max_nodes, max_arcs, node_places, arc_places}
use Rattle.network.specs.Network.{empty_net, arc_at, supply_at, is_here, is_used, with_arc, with_node}
use Rattle.network.specs.Pair.{price_at, flow_at}

-- ---- "survivors keep their order and are numbered from 1"

-- the new number of node i: how many nodes up to it are left
unfoldable pub rank_of : Net → ℕ → ℕ
rank_of net i = count (λ k. is_here net k && leb k i) node_places

unfoldable pub arc_rank : Net → ℕ → ℕ
arc_rank net j = count (λ k. is_used net k && leb k j) arc_places

-- an arc with these ends
abbrev pub between : ℕ → ℕ → Arc → Arc
between i k t = record { from = i; to = k; cost = t.cost; lower = t.lower; upper = t.upper; a = t.a; b = t.b }

abbrev pub renumbered : Net → Arc → Arc
renumbered net t = between (rank_of net t.from) (rank_of net t.to) t

abbrev pub with_sizes : Net → ℕ → ℕ → Net
with_sizes p n m = record { n = n; m = m; constant = p.constant; here = p.here; supply = p.supply; arcs = p.arcs }

-- node i + 1 of net, where it is left and there is room, behind the nodes of p
unfoldable pub pack_node : Net → ℕ → Net → Net
pack_node net i p = cond (is_here net (i + 1) && ltb p.n max_nodes) (with_node (with_sizes p (p.n + 1) p.m) (p.n + 1) (supply_at net (i + 1))) p

-- arc j + 1 of net, where it is left and there is room, behind the arcs of p
unfoldable pub pack_arc : Net → ℕ → Net → Net
pack_arc net j p = cond (is_used net (j + 1) && ltb p.m max_arcs) (with_arc (with_sizes p p.n (p.m + 1)) (p.m + 1) (renumbered net (arc_at net (j + 1)))) p

-- the survivors, with the constant of the whole
unfoldable pub packed_of : Net → Net
packed_of net = upto (pack_arc net) max_arcs (upto (pack_node net) max_nodes (empty_net 0 0 net.constant))

-- ---- a pair at the original numbers

-- prices of the nodes in use, flows of the arcs in use, and 0 elsewhere until the way back restores a figure there
abbrev pub spread_price : Net → Pair → ℕ → Fraction
spread_price net pair i = cond (is_here net i) (price_at pair (rank_of net i)) zero_fraction

abbrev pub spread_flow : Net → Pair → ℕ → Fraction
spread_flow net pair j = cond (is_used net j) (flow_at pair (arc_rank net j)) zero_fraction

unfoldable pub spread_of : Net → Pair → Pair
spread_of net pair = record { price = build node_places (spread_price net pair); flow = build arc_places (spread_flow net pair) }
