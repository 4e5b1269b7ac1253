-- How a way back reads: its figures in the paper's order, then the flows and the price that it restores.
use Rattle.std.specs.Prelude.{cond, List, [], ◌∷◌, ℕ, eqb}
use Rattle.fraction.specs.declared.Fraction.{Fraction}
use Rattle.fraction.specs.declared.Misfit.{Misfit}
use Rattle.fraction.specs.Exact.{Worked}
use Rattle.std.specs.Prelude.{Result, Ok, Err}
use Rattle.fraction.specs.Exact.{no_figure}
use Rattle.fraction.specs.Formula.{◌⊖◌, ◌⊗◌, ◌⊘◌}
use Rattle.network.specs.declared.Arc.{Arc}
use Rattle.network.specs.declared.Net.{Net}
use Rattle.network.specs.declared.ArcUpdate.{ArcUpdate}
use Rattle.network.specs.declared.pair.Pair.{Pair}
use Rattle.network.specs.Network.{arc_at, no_update, side_of}
use Rattle.network.specs.Pair.{price_at, with_price, with_flow}
use Rattle.step.specs.declared.Numbers.{Numbers}
use Rattle.step.specs.declared.Old.{Old}
use Rattle.step.specs.declared.FlowUpdate.{FlowUpdate}
use Rattle.step.specs.declared.PriceUpdate.{PriceUpdate}
use Rattle.step.specs.declared.Restored.{Restored}

-- what the way back over a step answers: the figures that it restores, or that one doesn't fit
abbrev pub Undone : Type 0
Undone = Result Restored Misfit

-- a line of what is made of figures: one that must fit (on the way back question 13)
unfoldable pub figure : {A T : Type 0} → Result A Misfit → (A → Result T Misfit) → Result T Misfit
figure (Ok x) rest = rest x
figure (Err m) rest = Err m

-- ---- the old arcs that a change hands to its way back

abbrev pub old_arcs_of : Old → List ArcUpdate
old_arcs_of old = old.one ∷ old.two ∷ old.three ∷ old.four ∷ []

abbrev pub old_arc : Net → ℕ → ArcUpdate
old_arc net j = record { number = j; arc = arc_at net j }

abbrev pub no_numbers : Numbers
no_numbers = record { first = 0; second = 0; third = 0; fourth = 0 }

-- one, or two, at a node that is dropped, of supply r
abbrev pub old_two : ℕ → Fraction → ArcUpdate → ArcUpdate → Old
old_two i r one two = record { node = i; supply = r; one = one; two = two; three = no_update; four = no_update; new = no_numbers }

abbrev pub old_one : ℕ → Fraction → ArcUpdate → Old
old_one i r one = old_two i r one no_update

-- ---- what is restored

abbrev pub no_flow_update : FlowUpdate
no_flow_update = record { arc = 0; flow = no_figure }

abbrev pub no_price_update : PriceUpdate
no_price_update = record { node = 0; price = no_figure }

abbrev pub nothing : Restored
nothing = record { one = no_flow_update; two = no_flow_update; three = no_flow_update; four = no_flow_update; price = no_price_update }

-- a flow for an old arc
abbrev pub flow_of : ArcUpdate → Fraction → FlowUpdate
flow_of old x = record { arc = old.number; flow = x }

-- two flows; a flow; a price; one of each
abbrev pub two_flows : ℕ → Fraction → ℕ → Fraction → Restored
two_flows k y j x = record { one = record { arc = k; flow = y }; two = record { arc = j; flow = x }; three = no_flow_update; four = no_flow_update; price = no_price_update }

abbrev pub flow_only : ℕ → Fraction → Restored
flow_only j x = record { one = record { arc = j; flow = x }; two = no_flow_update; three = no_flow_update; four = no_flow_update; price = no_price_update }

abbrev pub price_only : ℕ → Fraction → Restored
price_only i p = record { one = no_flow_update; two = no_flow_update; three = no_flow_update; four = no_flow_update; price = record { node = i; price = p } }

abbrev pub flow_and_price : ℕ → Fraction → ℕ → Fraction → Restored
flow_and_price j x i p = record { one = record { arc = j; flow = x }; two = no_flow_update; three = no_flow_update; four = no_flow_update; price = record { node = i; price = p } }

-- the pair with these figures
abbrev pub with_flow_of : Pair → FlowUpdate → Pair
with_flow_of pair u = with_flow pair u.arc u.flow

unfoldable pub restored : Pair → Restored → Pair
restored pair r = with_price (with_flow_of (with_flow_of (with_flow_of (with_flow_of pair r.one) r.two) r.three) r.four) r.price.node r.price.price

-- ---- the price that an arc gives a node

-- (c - o × other price) ÷ e at node i; "o .. absent for a root arc"
unfoldable pub quote_at : Arc → ℕ → Fraction → Worked
quote_at t i p = cond (eqb (side_of t i).other 0) (Ok t.cost) (Ok t.cost ⊖ Ok (side_of t i).o ⊗ Ok p) ⊘ Ok (side_of t i).e

abbrev pub quote_of : Arc → ℕ → Pair → Worked
quote_of t i pair = quote_at t i (price_at pair (side_of t i).other)
