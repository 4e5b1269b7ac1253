-- An arc at a known flow is dropped: what rules 1, 3 and 4 share.
use Rattle.std.specs.Prelude.{cond, ℕ, eqb}
use Rattle.fraction.specs.declared.Fraction.{Fraction}
use Rattle.fraction.specs.Exact.{Worked}
use Rattle.std.specs.Prelude.{Ok}
use Rattle.fraction.specs.Exact.{no_figure}
use Rattle.fraction.specs.Formula.{◌⊕◌, ◌⊖◌, ◌⊗◌, ◌⊘◌}
use Rattle.network.specs.declared.Arc.{Arc}
use Rattle.network.specs.declared.Net.{Net}
use Rattle.network.specs.declared.Edit.{Edit}
use Rattle.network.specs.declared.Side.{Side}
use Rattle.network.specs.declared.pair.Pair.{Pair}
use Rattle.network.specs.Network.{no_arc, arc_at, supply_at, far_end, edit_one}
use Rattle.step.specs.declared.Old.{Old}
use Rattle.step.specs.Outcome.{Outcome}
use Rattle.step.specs.Back.{Undone}
use Rattle.step.specs.Outcome.{◌>>=◌, fits}
use Rattle.step.specs.Back.{old_one, flow_only}

-- the supply s at an end less its multiplier e × the flow v; no supply where there is no end
unfoldable pub supply_less : ℕ → Fraction → Fraction → Fraction → Worked
supply_less end s e v = cond (eqb end 0) (Ok no_figure) (Ok s ⊖ Ok e ⊗ Ok v)

-- "add c × flow to it": the constant, and the cost c of a flow v (02, 2026-01)
unfoldable pub cost_added : Fraction → Fraction → Fraction → Worked
cost_added constant c v = Ok constant ⊕ Ok c ⊗ Ok v

-- an arc t of side w takes the supply r of a node with it: the constant gains c × r ÷ e
unfoldable pub gained : Fraction → Arc → Side → Fraction → Worked
gained constant t w r = Ok constant ⊕ Ok t.cost ⊗ Ok r ⊘ Ok w.e

-- arc j dropped, with supplies for two nodes, a node dropped, and the constant; number 0 means none
abbrev pub dropping : ℕ → ℕ → Fraction → ℕ → Fraction → ℕ → Fraction → Edit
dropping j m x n y gone constant = edit_one (record { number = j; arc = no_arc }) (record { node = m; supply = x }) (record { node = n; supply = y }) gone constant

-- "supply at each end less its multiplier × [the flow v]; arc dropped"
-- j is the arc t; r and r' are the supplies at its ends
unfoldable pub dropped : Fraction → ℕ → Arc → Fraction → Fraction → Fraction → Outcome
dropped constant j t v r r' = do
  x ← fits (supply_less t.from r t.a v)
  y ← fits (supply_less (far_end t) r' t.b v)
  z ← fits (cost_added constant t.cost v)
  Ok (record { edit = dropping j t.from x (far_end t) y 0 z; old = old_one 0 no_figure (record { number = j; arc = t }) })

abbrev pub dropped_at : Net → ℕ → Fraction → Outcome
dropped_at net j v = dropped net.constant j (arc_at net j) v (supply_at net (arc_at net j).from) (supply_at net (arc_at net j).to)

-- "Back: flow l."
unfoldable pub lower_back : Old → Pair → Undone
lower_back old pair = Ok (flow_only old.one.number old.one.arc.lower)
