-- What is due: what was put at the time w or later, when a pair was last sought; and the cost by way of each root arc.
use Rattle.std.specs.Prelude.{◌≡◌, Bool, true, cond, ◌&&◌, ◌||◌, not, List, ℕ, ◌<◌, ltb, leb, get_or, set}
use Rattle.loops.specs.Loops.{any, build}
use Rattle.fraction.specs.declared.Fraction.{Fraction}
use Rattle.std.specs.Prelude.{Ok}
use Rattle.fraction.specs.Exact.{no_figure, sum_of}
use Rattle.fraction.specs.Formula.{figure_of, ◌⊗◌, ◌⊘◌}
use Rattle.network.specs.declared.Arc.{Arc}
use Rattle.network.specs.declared.Net.{Net}
use Rattle.network.specs.Limits.{node_places, arc_places}
use Rattle.network.specs.Network.{arc_at}
use Rattle.costly_arc.specs.CostlyArc.{is_positive, is_under, is_open_root}
use Rattle.costly_arc.specs.Seen.{Seen, put_at, is_candidate, is_old}
use Rattle.costly_arc.specs.declared.due.Both.{Both}

-- ---- the times of nodes

-- each root arc without upper bound at a node was put before the node's time
abbrev pub Covers : Net → Seen → List ℕ → Type 0
Covers net seen times = (i k : ℕ) → i < node_places → k < arc_places → is_open_root (arc_at net k) i ≡ true → put_at seen k < get_or times i 0

-- the time p at node i, if it is later
abbrev pub later : List ℕ → ℕ → ℕ → List ℕ
later times i p = cond (ltb i node_places && ltb (get_or times i 0) p) (set times i p) times

-- a root arc may have been put at node i at the time w or later
unfoldable pub is_fresh : List ℕ → ℕ → ℕ → Bool
is_fresh times w i = leb node_places i || ltb w (get_or times i 0)

-- a candidate with root arcs at both ends, some of them put at the time w or later
unfoldable pub is_due : List ℕ → ℕ → Arc → Bool
is_due times w t = is_candidate t && (is_fresh times 0 t.from && (is_fresh times 0 t.to && (is_fresh times w t.from || is_fresh times w t.to)))

-- ---- the ways of root arcs

-- c1 × e ÷ a1, the cost by way of the root arc x at node i, where e is the multiplier there; none where x is old or does not serve
unfoldable pub way_of : Bool → Arc → ℕ → Fraction → Fraction
way_of old x i e = cond (not old && (is_open_root x i && is_positive (Ok e ⊘ Ok x.a))) (figure_of (Ok x.cost ⊗ Ok e ⊘ Ok x.a)) no_figure

-- the ways by arc k at both ends of t; at the from node it is old before the time p, at the to node before the time q
abbrev pub both_of : Net → Seen → ℕ → ℕ → Arc → ℕ → Both
both_of net seen p q t k = record { from = way_of (is_old seen p k) (arc_at net k) t.from t.a; to = way_of (is_old seen q k) (arc_at net k) t.to t.b }

-- the ways by each arc's number
unfoldable pub ways_of : Net → Seen → ℕ → ℕ → Arc → List Both
ways_of net seen p q t = build arc_places (both_of net seen p q t)

-- no way at either end
abbrev pub neither : Both
neither = record { from = no_figure; to = no_figure }

-- the way of arc k at the to node is due, and makes with q a sum that fits and is below c
abbrev pub is_due_under : Seen → ℕ → Fraction → List Both → Fraction → ℕ → Bool
is_due_under seen w q ways c k = not (is_old seen w k) && is_under (sum_of q (get_or ways k neither).to) c

-- the time from which a partner is due: of two, not both are old
abbrev pub bar_of : Bool → ℕ → ℕ
bar_of old w = cond old w 0

-- the way of arc k at the from node is in a due pair
abbrev pub is_due_from : Seen → ℕ → List Both → Fraction → ℕ → Bool
is_due_from seen w ways c k = any (is_due_under seen (bar_of (is_old seen w k) w) (get_or ways k neither).from ways c) arc_places
