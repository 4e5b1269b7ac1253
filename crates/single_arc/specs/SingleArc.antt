-- Rule 3, single arc (01, "The six reductions"): a singleton row.
use Rattle.std.specs.Prelude.{false, List, ℕ, eqb, get_or}
use Rattle.fraction.specs.declared.Fraction.{Fraction}
use Rattle.std.specs.Prelude.{Ok}
use Rattle.fraction.specs.Exact.{no_figure, is_less}
use Rattle.fraction.specs.Formula.{◌⊘◌}
use Rattle.network.specs.declared.Arc.{Arc}
use Rattle.network.specs.declared.Net.{Net}
use Rattle.network.specs.declared.Side.{Side}
use Rattle.network.specs.declared.ArcUpdate.{ArcUpdate}
use Rattle.network.specs.declared.pair.Pair.{Pair}
use Rattle.network.specs.Limits.{max_nodes}
use Rattle.network.specs.Network.{is_here, degree_of, side_of}
use Rattle.step.specs.declared.Old.{Old}
use Rattle.step.specs.Outcome.{Outcome}
use Rattle.step.specs.Back.{Undone}
use Rattle.step.specs.Outcome.{◌>>=◌, ◌>>◌, only_where, no_flow_where, fits}
use Rattle.step.specs.Dropped.{supply_less, cost_added, dropping}
use Rattle.step.specs.Back.{figure, old_arc, old_one, flow_and_price, quote_of}
use Rattle.step.specs.Around.{first_at}
use Rattle.step.specs.Run.{Rule}

-- "Flow v = r ÷ e; outside the bounds: no flow. Otherwise the other end's supply becomes r' - o × v; arc and node dropped."
-- j, t, is the arc at node i of supply r, w its side there, and r' the supply at its other end
unfoldable pub forced_out : Fraction → ℕ → ℕ → Arc → Side → Fraction → Fraction → Outcome
forced_out constant i j t w r r' = do
  v ← fits (Ok r ⊘ Ok w.e)
  no_flow_where (is_less v t.lower)
  no_flow_where (is_less t.upper v)
  s ← fits (supply_less w.other r' w.o v)
  z ← fits (cost_added constant t.cost v)
  Ok (record { edit = dropping j w.other s 0 no_figure i z; old = old_one i r (record { number = j; arc = t }) })

-- "degree 1"
-- node i has degree d, and u is the first arc there
unfoldable pub single : Fraction → List Fraction → ℕ → ℕ → ArcUpdate → Outcome
single constant supply i d u = do
  only_where (eqb d 1)
  let w = side_of u.arc i
  forced_out constant i u.number u.arc w (get_or supply i no_figure) (get_or supply w.other no_figure)

unfoldable pub single_arc : Net → ℕ → Outcome
single_arc net i = do
  only_where (is_here net i)
  single net.constant net.supply i (degree_of net i) (old_arc net (first_at net i))

-- "Back: flow v, price (c - o × other price) ÷ e."
unfoldable pub single_back : Old → Pair → Undone
single_back old pair = do
  let i = old.node
  let t = old.one.arc
  v ← figure (Ok old.supply ⊘ Ok (side_of t i).e)
  p ← figure (quote_of t i pair)
  Ok (flow_and_price old.one.number v i p)

abbrev pub rule : Rule
rule = record { last = max_nodes; at = single_arc; back = single_back; trial = record { degree = 1; balanced = false; by = λ constant supply i d near. single constant supply i d near.one } }
