-- The network that a reduction works on (01, "The problem and its figures"), and what a step changes in it.
use Rattle.std.specs.Prelude.{◌≡◌, List, [], ◌∷◌, Bool, true, false, cond, not, ◌||◌, ◌&&◌, ℕ, zero, suc, ◌+◌, ◌-◌, ◌<◌, ◌≤◌, eqb, leb, ltb, get_or, set, replicate}
use Rattle.loops.specs.Loops.{count, scan}
use Rattle.fraction.specs.declared.Fraction.{Fraction}
use Rattle.fraction.specs.Exact.{no_figure}
use Rattle.network.specs.Limits.{max_nodes, max_arcs, node_places, arc_places}
use Rattle.network.specs.declared.Arc.{Arc}
use Rattle.network.specs.declared.Net.{Net}
use Rattle.network.specs.declared.ArcUpdate.{ArcUpdate}
use Rattle.network.specs.declared.SupplyUpdate.{SupplyUpdate}
use Rattle.network.specs.declared.Edit.{Edit}
use Rattle.network.specs.declared.Side.{Side}

-- what stands where there is nothing: every number is 0
abbrev pub no_arc : Arc
no_arc = record { from = 0; to = 0; cost = no_figure; lower = no_figure; upper = no_figure; a = no_figure; b = no_figure }

-- no node and no arc yet, of n and m, with a constant
abbrev pub empty_net : ℕ → ℕ → Fraction → Net
empty_net n m constant = record { n = n; m = m; constant = constant; here = replicate node_places false; supply = replicate node_places no_figure; arcs = replicate arc_places no_arc }

-- arc j, the supply r of node i, and whether node i is in use
abbrev pub arc_at : Net → ℕ → Arc
arc_at net j = get_or net.arcs j no_arc

abbrev pub supply_at : Net → ℕ → Fraction
supply_at net i = get_or net.supply i no_figure

abbrev pub is_here : Net → ℕ → Bool
is_here net i = get_or net.here i false

-- whether arc j is in use
abbrev pub is_used : Net → ℕ → Bool
is_used net j = not (eqb (arc_at net j).from 0)

-- whether k is a number from 1 to top
abbrev pub is_number : ℕ → ℕ → Bool
is_number top k = leb 1 k && leb k top

-- replaced, where there is such a number: arc j, the supply of node i, whether node i is in use
unfoldable pub with_arc : Net → ℕ → Arc → Net
with_arc net j t = record { n = net.n; m = net.m; constant = net.constant; here = net.here; supply = net.supply; arcs = cond (is_number max_arcs j) (set net.arcs j t) net.arcs }

unfoldable pub with_supply : Net → ℕ → Fraction → Net
with_supply net i r = record { n = net.n; m = net.m; constant = net.constant; here = net.here; supply = cond (is_number max_nodes i) (set net.supply i r) net.supply; arcs = net.arcs }

abbrev pub set_here : Net → ℕ → Bool → Net
set_here net i h = record { n = net.n; m = net.m; constant = net.constant; here = cond (is_number max_nodes i) (set net.here i h) net.here; supply = net.supply; arcs = net.arcs }

-- node i put in use, with its supply; node i dropped
unfoldable pub with_node : Net → ℕ → Fraction → Net
with_node net i r = set_here (with_supply net i r) i true

unfoldable pub without : Net → ℕ → Net
without net i = set_here net i false

-- the constant replaced
abbrev pub with_constant : Net → Fraction → Net
with_constant net constant = record { n = net.n; m = net.m; constant = constant; here = net.here; supply = net.supply; arcs = net.arcs }

-- ---- a step's change

abbrev pub with_update : Net → ArcUpdate → Net
with_update net p = with_arc net p.number p.arc

abbrev pub with_supply_update : Net → SupplyUpdate → Net
with_supply_update net l = with_supply net l.node l.supply

-- arcs replaced one after the other, and those of an edit
abbrev pub with_updates : Net → List ArcUpdate → Net
with_updates net [] = net
with_updates net (p ∷ ps) = with_updates (with_update net p) ps

abbrev pub updates_of : Edit → List ArcUpdate
updates_of c = c.one ∷ c.two ∷ c.three ∷ c.four ∷ []

unfoldable pub applied : Net → Edit → Net
applied net c = with_constant (without (with_supply_update (with_supply_update (with_updates net (updates_of c)) c.left) c.right) c.gone) c.constant

-- ---- an arc as it is seen from a node

-- a root arc "touches one node: b is zero and from equals to"
unfoldable pub is_root : Arc → Bool
is_root t = eqb t.from t.to

unfoldable pub is_touching : Arc → ℕ → Bool
is_touching t i = eqb t.from i || eqb t.to i

-- "degree is the number of arcs touching a node; a root arc counts once"
unfoldable pub degree_of : Net → ℕ → ℕ
degree_of net i = count (λ j. is_touching (arc_at net j) i) arc_places

-- the degrees of the nodes, at their places; one more at number f
abbrev pub raised : List ℕ → ℕ → List ℕ
raised ds f = cond (ltb f node_places) (set ds f (get_or ds f 0 + 1)) ds

pub record Countable (ds : List ℕ) : Type 0 where
  pub few : (i : ℕ) → get_or ds i 0 ≤ arc_places

-- one more at each end of an arc
abbrev pub counted_at : List ℕ → Arc → List ℕ
counted_at ds t = cond (is_root t) (raised ds t.from) (raised (raised ds t.from) t.to)

-- the degrees by the arcs of the numbers up to m
abbrev pub numbers_to : ℕ → ℕ
numbers_to m = cond (ltb m max_arcs) (m + 1) arc_places

abbrev pub AreDegreesTo : Net → ℕ → List ℕ → Type 0
AreDegreesTo net m ds = (i : ℕ) → i < node_places → get_or ds i 0 ≡ count (λ j. is_touching (arc_at net j) i) (numbers_to m)

-- the first arc after number k that touches node i; 0 where there is none
abbrev pub or_next : ℕ → (ℕ → ℕ) → ℕ → ℕ
or_next zero g j = g j
or_next (suc k) g j = suc k

abbrev pub touch_at : Net → ℕ → ℕ → ℕ
touch_at net i j = cond (is_touching (arc_at net j) i) j 0

unfoldable pub touching_after : Net → ℕ → ℕ → ℕ
touching_after net i k = scan or_next 0 (touch_at net i) (max_arcs - k) (k + 1)

-- ---- parallel arcs: "both have the same from and to" (02, 2026-02)

unfoldable pub is_parallel : Arc → Arc → Bool
is_parallel t u = eqb u.from t.from && eqb u.to t.to

-- the first arc after number j that is parallel to arc j; 0 where there is none
unfoldable pub parallel_after : Net → ℕ → ℕ
parallel_after net j = scan or_next 0 (λ k. cond (is_parallel (arc_at net j) (arc_at net k)) k 0) (max_arcs - j) (j + 1)

-- the next parallel arc of each arc in use, at its number
abbrev pub AreParallel : Net → List ℕ → Type 0
AreParallel net next = (j : ℕ) → get_or next j 0 ≡ cond (is_used net j) (parallel_after net j) 0

-- ---- an arc's ends, and an arc at a node

-- the end that is not the from node; 0 for a root arc, which has none
unfoldable pub far_end : Arc → ℕ
far_end t = cond (is_root t) 0 t.to

-- "at node i, e means an arc's multiplier there and o the one at its other end"
unfoldable pub side_of : Arc → ℕ → Side
side_of t i = cond (eqb t.from i) (record { e = t.a; o = t.b; other = far_end t }) (record { e = t.b; o = t.a; other = t.from })

-- ---- edits

abbrev pub no_update : ArcUpdate
no_update = record { number = 0; arc = no_arc }

abbrev pub no_supply_update : SupplyUpdate
no_supply_update = record { node = 0; supply = no_figure }

-- a change of one arc, or of two, two supplies, a node and the constant
abbrev pub edit_two : ArcUpdate → ArcUpdate → SupplyUpdate → SupplyUpdate → ℕ → Fraction → Edit
edit_two one two left right gone constant = record { one = one; two = two; three = no_update; four = no_update; left = left; right = right; gone = gone; constant = constant }

abbrev pub edit_one : ArcUpdate → SupplyUpdate → SupplyUpdate → ℕ → Fraction → Edit
edit_one one left right gone constant = edit_two one no_update left right gone constant

abbrev pub no_edit : Edit
no_edit = edit_one no_update no_supply_update no_supply_update 0 no_figure
