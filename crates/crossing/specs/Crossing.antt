-- Rule 6, crossing (01, "The six reductions"; Proposition 4).
use Rattle.std.specs.Prelude.{Bool, true, false, cond, ◌&&◌, not, ℕ, ◌+◌, ◌-◌, eqb}
use Rattle.loops.specs.Loops.{scan}
use Rattle.fraction.specs.declared.Fraction.{Fraction}
use Rattle.fraction.specs.Exact.{Worked}
use Rattle.std.specs.Prelude.{Result, Ok}
use Rattle.fraction.specs.declared.Misfit.{Misfit}
use Rattle.fraction.specs.Exact.{zero_fraction, no_upper, is_zero}
use Rattle.fraction.specs.Formula.{◌⊕◌, ◌⊘◌, ⊝◌}
use Rattle.network.specs.declared.Arc.{Arc}
use Rattle.network.specs.declared.Net.{Net}
use Rattle.network.specs.declared.Side.{Side}
use Rattle.network.specs.declared.ArcUpdate.{ArcUpdate}
use Rattle.network.specs.declared.Edit.{Edit}
use Rattle.network.specs.declared.pair.Pair.{Pair}
use Rattle.network.specs.Limits.{max_arcs}
use Rattle.network.specs.Network.{no_supply_update, arc_at, supply_at, is_here, degree_of, or_next, side_of}
use Rattle.network.specs.Pair.{flow_at}
use Rattle.step.specs.declared.Numbers.{Numbers}
use Rattle.step.specs.declared.Old.{Old}
use Rattle.step.specs.Outcome.{Outcome}
use Rattle.step.specs.declared.PriceUpdate.{PriceUpdate}
use Rattle.step.specs.Back.{Undone}
use Rattle.step.specs.Figure.{larger}
use Rattle.step.specs.Outcome.{◌>>=◌, ◌>>◌, only_where, fits}
use Rattle.step.specs.Back.{figure, old_arc, flow_of, quote_of}
use Rattle.step.specs.Junction.{has_sign_at, is_free, is_apart}
use Rattle.step.specs.Around.{first_at, second_at, third_at, fourth_at}

-- ---- "two arcs N with e < 0, two arcs P with e > 0"

-- N: `has_sign_at t i true`, P: `has_sign_at t i false`

-- the first such arc after number k; 0 where there is none
unfoldable pub signed_after : Net → ℕ → Bool → ℕ → ℕ
signed_after net i below k = scan or_next 0 (λ j. cond (has_sign_at (arc_at net j) i below) j 0) (max_arcs - k) (k + 1)

abbrev pub first_n : Net → ℕ → ℕ
first_n net i = signed_after net i true 0

abbrev pub second_n : Net → ℕ → ℕ
second_n net i = signed_after net i true (first_n net i)

abbrev pub first_p : Net → ℕ → ℕ
first_p net i = signed_after net i false 0

abbrev pub second_p : Net → ℕ → ℕ
second_p net i = signed_after net i false (first_p net i)

-- "the four old numbers in upward order"
abbrev pub upward_at : Net → ℕ → Numbers
upward_at net i = record { first = first_at net i; second = second_at net i; third = third_at net i; fourth = fourth_at net i }

-- ---- conditions

-- "no root arc, all l = 0 and unbounded above": `is_free`; "no N shares its other end with a P": `is_apart`

-- ---- the step

-- "a new arc from N's other end, multiplier -(o ÷ e) of N, to P's other end, o ÷ e of P, cost -(cN ÷ eN) + cP ÷ eP, bounds 0 and none"
abbrev pub new_arc : Side → Side → Fraction → Fraction → Fraction → Arc
new_arc wn wp a b c = record { from = wn.other; to = wp.other; cost = c; lower = zero_fraction; upper = no_upper; a = a; b = b }

unfoldable pub crossed : ℕ → Arc → Arc → Result Arc Misfit
crossed i n p = do
  let wn = side_of n i
  let wp = side_of p i
  a ← figure (⊝ (Ok wn.o ⊘ Ok wn.e))
  b ← figure (Ok wp.o ⊘ Ok wp.e)
  c ← figure (⊝ (Ok n.cost ⊘ Ok wn.e) ⊕ Ok p.cost ⊘ Ok wp.e)
  Ok (new_arc wn wp a b c)

abbrev pub put_of : ℕ → Arc → ArcUpdate
put_of k t = record { number = k; arc = t }

-- four arcs take these numbers, and a node is dropped; the constant stays
abbrev pub edit_four : Numbers → Arc → Arc → Arc → Arc → ℕ → Fraction → Edit
edit_four k a b c d gone constant = record { one = put_of k.first a; two = put_of k.second b; three = put_of k.third c; four = put_of k.fourth d; left = no_supply_update; right = no_supply_update; gone = gone; constant = constant }

-- n1, n2 are the N and p1, p2 the P at node i of supply r, and k the four old numbers in upward order
-- "for each N, then each P, upward, a new arc"; "the four take the four old numbers in upward order"; the node is dropped
unfoldable pub crossed_at : Fraction → ℕ → Fraction → ArcUpdate → ArcUpdate → ArcUpdate → ArcUpdate → Numbers → Outcome
crossed_at constant i r n1 n2 p1 p2 k = do
  only_where (is_free n1.arc && (is_free n2.arc && (is_free p1.arc && is_free p2.arc)))
  only_where (is_apart n1.arc p1.arc i && (is_apart n1.arc p2.arc i && (is_apart n2.arc p1.arc i && is_apart n2.arc p2.arc i)))
  a ← fits (crossed i n1.arc p1.arc)
  b ← fits (crossed i n1.arc p2.arc)
  c ← fits (crossed i n2.arc p1.arc)
  d ← fits (crossed i n2.arc p2.arc)
  Ok (record { edit = edit_four k a b c d i constant; old = record { node = i; supply = r; one = n1; two = n2; three = p1; four = p2; new = k } })

-- "degree 4", "r = 0", "two arcs N with e < 0, two arcs P with e > 0"
unfoldable pub crossing : Net → ℕ → Outcome
crossing net i = do
  only_where (is_here net i)
  only_where (eqb (degree_of net i) 4)
  only_where (is_zero (supply_at net i))
  only_where (not (eqb (second_n net i) 0))
  only_where (not (eqb (second_p net i) 0))
  crossed_at net.constant i (supply_at net i) (old_arc net (first_n net i)) (old_arc net (second_n net i)) (old_arc net (first_p net i)) (old_arc net (second_p net i)) (upward_at net i)

-- ---- "Back: N gets -(sum of its two ÷ e), P the sum of its two ÷ e"

-- the sum of two flows ÷ e of an arc at node i
abbrev pub share_of : Fraction → Fraction → Arc → ℕ → Worked
share_of x y t i = (Ok x ⊕ Ok y) ⊘ Ok (side_of t i).e

-- "price is the larger of (c - o × other price) ÷ e over the two N"
abbrev pub price_of : ℕ → Fraction → Fraction → PriceUpdate
price_of i p q = record { node = i; price = larger p q }

unfoldable pub crossing_back : Old → Pair → Undone
crossing_back old pair = do
  let i = old.node
  let n1 = old.one
  let n2 = old.two
  let p1 = old.three
  let p2 = old.four
  let a = flow_at pair old.new.first
  let b = flow_at pair old.new.second
  let c = flow_at pair old.new.third
  let d = flow_at pair old.new.fourth
  x ← figure (⊝ (share_of a b n1.arc i))
  y ← figure (⊝ (share_of c d n2.arc i))
  z ← figure (share_of a c p1.arc i)
  w ← figure (share_of b d p2.arc i)
  p ← figure (quote_of n1.arc i pair)
  q ← figure (quote_of n2.arc i pair)
  Ok (record { one = flow_of n2 y; two = flow_of n1 x; three = flow_of p2 w; four = flow_of p1 z; price = price_of i p q })
