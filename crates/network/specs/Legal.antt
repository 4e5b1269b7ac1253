-- The form of a network that the questions let pass, and that every step keeps.
use Rattle.std.specs.Prelude.{◌≡◌, true, false, ◌⊎◌, ℕ, ◌≤◌, ◌<◌, length}
use Rattle.fraction.specs.declared.Fraction.{Fraction}
use Rattle.fraction.specs.Exact.{Proper, no_lower, no_upper, is_zero}
use Rattle.network.specs.Limits.{max_nodes, max_arcs, node_places, arc_places}
use Rattle.network.specs.declared.Arc.{Arc}
use Rattle.network.specs.declared.Net.{Net}
use Rattle.network.specs.Network.{no_arc, arc_at, supply_at, is_here, is_root}

-- a bound: a fraction in form, or the mark of its side
abbrev pub Bound : Fraction → Fraction → Type 0
Bound mark f = Proper f ⊎ (f ≡ mark)

-- an arc in use
pub record LegalArc (net : Net) (t : Arc) : Type 0 where
  pub from_here : is_here net t.from ≡ true
  pub to_here : is_here net t.to ≡ true
  pub cost_proper : Proper t.cost
  pub lower_bound : Bound no_lower t.lower
  pub upper_bound : Bound no_upper t.upper
  pub a_proper : Proper t.a
  pub b_proper : Proper t.b
  -- "a is never zero", and b is zero exactly where from = to
  pub a_nonzero : is_zero t.a ≡ false
  pub b_zero : is_zero t.b ≡ is_root t

pub record Legal (net : Net) : Type 0 where
  pub here_long : length net.here ≡ node_places
  pub supply_long : length net.supply ≡ node_places
  pub arcs_long : length net.arcs ≡ arc_places
  pub few_nodes : net.n ≤ max_nodes
  pub few_arcs : net.m ≤ max_arcs
  -- numbers begin at 1
  pub no_node : is_here net 0 ≡ false
  pub no-arc : (arc_at net 0).from ≡ 0
  -- and end at n and m: numbers above are not in use
  pub nodes_beyond : (i : ℕ) → net.n < i → is_here net i ≡ false
  pub arcs_beyond : (j : ℕ) → net.m < j → (arc_at net j).from ≡ 0
  pub constant_proper : Proper net.constant
  pub supply_proper : (i : ℕ) → is_here net i ≡ true → Proper (supply_at net i)
  -- a number not in use has the zero record
  pub unused : (j : ℕ) → (arc_at net j).from ≡ 0 → arc_at net j ≡ no_arc
  pub used : (j : ℕ) → 1 ≤ (arc_at net j).from → LegalArc net (arc_at net j)

-- an arc that may be put at number j: none, or one in use at a number up to m
abbrev pub MayPut : Net → ℕ → Arc → Type 0
MayPut net j t = (t ≡ no_arc) ⊎ ((j ≤ net.m) × LegalArc net t)

-- the numbers have no gaps: all nodes 1 to n and all arcs 1 to m are in use
pub record Gapless (net : Net) : Type 0 where
  pub node_in : (i : ℕ) → 1 ≤ i → i ≤ net.n → is_here net i ≡ true
  pub arc-in : (j : ℕ) → 1 ≤ j → j ≤ net.m → 1 ≤ (arc_at net j).from
