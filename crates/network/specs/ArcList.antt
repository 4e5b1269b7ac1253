-- The lent list of arc records (01, "Records": "the working arcs stand as a lent list of arc records, one for each number"), and the network whose arcs stand in it.
use Rattle.std.specs.Prelude.{List, [], ◌∷◌, ℕ, zero, suc, get_or, set, replicate}
use Rattle.loops.specs.Loops.{build}
use Rattle.network.specs.Limits.{arc_places}
use Rattle.network.specs.declared.Arc.{Arc}
use Rattle.network.specs.declared.Net.{Net}
use Rattle.network.specs.declared.Nodes.{Nodes}
use Rattle.network.specs.declared.ArcUpdate.{ArcUpdate}
use Rattle.network.specs.declared.Edit.{Edit}
use Rattle.network.specs.Network.{no_arc, updates_of}

-- the record of number j, from 1; zeros where there is none
unfoldable pub record_at : List Arc → ℕ → Arc
record_at xs j = get_or (no_arc ∷ xs) j no_arc

-- replaced, where there is such a number
unfoldable pub replaced : List Arc → ℕ → Arc → List Arc
replaced xs zero t = xs
replaced xs (suc j) t = set xs j t

-- one after the other, and by the arcs of a step's change
abbrev pub replaced_by : List Arc → List ArcUpdate → List Arc
replaced_by xs [] = xs
replaced_by xs (p ∷ ps) = replaced_by (replaced xs p.number p.arc) ps

unfoldable pub replaced_all : List Arc → Edit → List Arc
replaced_all xs c = replaced_by xs (updates_of c)

-- "every figure in it zero": k records all of whose numbers are 0
abbrev pub no_arcs : ℕ → List Arc
no_arcs k = replicate k no_arc

-- ---- a network whose arcs stand in the list

-- the arcs at their numbers
unfoldable pub arcs_in : List Arc → List Arc
arcs_in xs = build arc_places (record_at xs)

-- what a network is beside its arcs, and the network of both
abbrev pub nodes_of : Net → Nodes
nodes_of net = record { n = net.n; m = net.m; constant = net.constant; here = net.here; supply = net.supply }

abbrev pub joined : Nodes → List Arc → Net
joined nodes arcs = record { n = nodes.n; m = nodes.m; constant = nodes.constant; here = nodes.here; supply = nodes.supply; arcs = arcs }

abbrev pub net_in : Nodes → List Arc → Net
net_in nodes xs = joined nodes (arcs_in xs)
