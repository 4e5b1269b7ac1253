-- Balances and prices as lists have them.
use Rattle.std.specs.Prelude.{cond, ◌&&◌, List, [], ℕ, ltb, get_or, set}
use Rattle.fraction.specs.declared.Fraction.{Fraction}
use Rattle.fraction.specs.Exact.{Worked}
use Rattle.std.specs.Prelude.{Ok}
use Rattle.fraction.specs.Exact.{no_figure}
use Rattle.fraction.specs.Formula.{is_fit, figure_of, ◌⊕◌, ◌⊗◌}
use Rattle.slackness.specs.Slackness.{keeps_rule}
use Rattle.network.specs.declared.Arc.{Arc}
use Rattle.network.specs.Limits.{node_places}
use Rattle.network.specs.Network.{is_root}
use Rattle.figures.specs.declared.Arcs.{Arcs}
use Rattle.figures.specs.Figures.{reduced_cost, is_within}

-- a node's balance, where those of all nodes are listed
abbrev pub sum_at : List Worked → ℕ → Worked
sum_at s i = get_or s i (Ok no_figure)

-- the place of node k among them, and of an arc's to node: the last where there is no such node
abbrev pub place_of : ℕ → ℕ
place_of k = cond (ltb k node_places) k node_places

abbrev pub to_place : Arc → ℕ
to_place t = cond (is_root t) node_places (place_of t.to)

-- a balance with one term more, and those of both ends of an arc with its flow
abbrev pub with_term : List Worked → ℕ → Fraction → Fraction → List Worked
with_term s k e x = set s k (sum_at s k ⊕ Ok e ⊗ Ok x)

abbrev pub with_arc : List Worked → Arc → Fraction → List Worked
with_arc s t x = with_term (with_term s (place_of t.from) t.a x) (to_place t) t.b x

-- an arc's reduced cost, by a list of prices
abbrev pub cost_in : List Fraction → Arc → Worked
cost_in price t = reduced_cost t (record { price = price; flow = [] })

-- the questions of all arcs, and of one arc more with its flow
abbrev pub asked : Arcs → Arc → Fraction → List Fraction → Arcs
asked a t x price = record { fit = a.fit && is_fit (cost_in price t); within = a.within && is_within t x; kept = a.kept && keeps_rule t.lower t.upper x (figure_of (cost_in price t)) }
