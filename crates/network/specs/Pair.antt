-- A pair of prices and flows, and its record (01, "Records"): question 8, and the pair that the record holds.
use Rattle.std.specs.Prelude.{cond, ℕ, get_or, set, replicate}
use Rattle.presolve.specs.LP as LP
use Rattle.fraction.specs.declared.Fraction.{Fraction}
use Rattle.fraction.specs.Exact.{no_figure}
use Rattle.fraction.specs.Value.{value}
use Rattle.network.specs.Limits.{max_nodes, max_arcs, node_places, arc_places}
use Rattle.network.specs.declared.pair.Pair.{Pair}
use Rattle.network.specs.Network.{is_number}

-- no price and no flow yet
abbrev pub no_pair : Pair
no_pair = record { price = replicate node_places no_figure; flow = replicate arc_places no_figure }

-- the price p of node i, and the flow of arc j
abbrev pub price_at : Pair → ℕ → Fraction
price_at pair i = get_or pair.price i no_figure

abbrev pub flow_at : Pair → ℕ → Fraction
flow_at pair j = get_or pair.flow j no_figure

-- replaced, where there is such a number
unfoldable pub with_price : Pair → ℕ → Fraction → Pair
with_price pair i f = record { price = cond (is_number max_nodes i) (set pair.price i f) pair.price; flow = pair.flow }

unfoldable pub with_flow : Pair → ℕ → Fraction → Pair
with_flow pair j f = record { price = pair.price; flow = cond (is_number max_arcs j) (set pair.flow j f) pair.flow }

-- ---- in exact numbers

abbrev pub exact_pair : Pair → LP.Pair
exact_pair pair = record { flow = λ j. value (flow_at pair j); price = λ i. value (price_at pair i) }
