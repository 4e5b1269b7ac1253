-- The limits of a network (document 01), named: every other definition uses the names.
use Rattle.std.specs.Prelude.{ℕ, ◌+◌}

-- the most nodes, and the most arcs
abbrev pub max_nodes : ℕ
max_nodes = 32

abbrev pub max_arcs : ℕ
max_arcs = 96

-- the places of their numbers, which are from 1: place 0 is no node's and no arc's
abbrev pub node_places : ℕ
node_places = max_nodes + 1

abbrev pub arc_places : ℕ
arc_places = max_arcs + 1

-- "there are at most n + m steps"
abbrev pub max_steps : ℕ
max_steps = max_nodes + max_arcs
