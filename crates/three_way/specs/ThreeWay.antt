-- Rule 8, three-way junctions (02, 2026-03; document 000, section 3.1), for both signs of supply.
use Rattle.std.specs.Prelude.{Bool, false, cond, ◌&&◌, not, List, ℕ, eqb, get_or}
use Rattle.fraction.specs.declared.Fraction.{Fraction}
use Rattle.fraction.specs.Exact.{Worked}
use Rattle.std.specs.Prelude.{Result, Ok}
use Rattle.fraction.specs.declared.Misfit.{Misfit}
use Rattle.fraction.specs.Exact.{zero_fraction, no_figure, no_upper, is_zero, is_less, is_same, is_finite}
use Rattle.fraction.specs.Formula.{◌⊕◌, ◌⊖◌, ◌⊗◌, ◌⊘◌, ⊝◌}
use Rattle.wide.specs.Share.{share_of}
use Rattle.network.specs.declared.Arc.{Arc}
use Rattle.network.specs.declared.Net.{Net}
use Rattle.network.specs.declared.Side.{Side}
use Rattle.network.specs.declared.ArcUpdate.{ArcUpdate}
use Rattle.network.specs.declared.pair.Pair.{Pair}
use Rattle.network.specs.Limits.{max_nodes}
use Rattle.network.specs.Network.{no_update, no_supply_update, is_here, degree_of, is_root, side_of}
use Rattle.network.specs.Pair.{flow_at}
use Rattle.step.specs.declared.Change.{Change}
use Rattle.step.specs.declared.Old.{Old}
use Rattle.step.specs.Outcome.{Outcome}
use Rattle.step.specs.declared.Restored.{Restored}
use Rattle.step.specs.Back.{Undone}
use Rattle.step.specs.Figure.{larger, smaller}
use Rattle.step.specs.Outcome.{◌>>=◌, ◌>>◌, only_where, fits}
use Rattle.step.specs.Back.{figure, old_arc, no_numbers, no_flow_update, flow_of, quote_of}
use Rattle.step.specs.Around.{first_at, second_at, third_at}
use Rattle.step.specs.Dropped.{gained}
use Rattle.step.specs.Junction.{has_sign_at, is_free, is_apart}
use Rattle.step.specs.Run.{Rule}

-- ---- "both signs"

-- whether a supply is below 0
abbrev pub is_below : Fraction → Bool
is_below r = is_less r zero_fraction

-- w for positive supply, -w for negative: in the added arc's bounds and in the flows of the way back, section 3.1's two signs differ in this alone
unfoldable pub turned : Bool → Worked → Worked
turned below w = cond below (⊝ w) w

-- ---- conditions

-- "no root arcs; arcs 1 and 2 have finite lower bounds and none above, the third has 0 and none": this of arcs 1 and 2, `is_free` of the third
unfoldable pub is_rising : Arc → Bool
is_rising t = not (is_root t) && (is_finite t.lower && is_same t.upper no_upper)

-- ---- the step. "Letters are the report's, e and o those of 01, whichever way an arc points": a_i is e and b_i is o of arcs 1 and 2, b is e and a is o of the third

-- "altered arcs run from the third arc's other end ..": "set a_i = -a a_i / b, c_i = c_i - c a_i / b, and l_i = 0"; w is the side of arc 1 or 2, v of the third
abbrev pub altered_arc : Side → Side → Fraction → Fraction → Arc
altered_arc w v a c = record { from = v.other; to = w.other; cost = c; lower = zero_fraction; upper = no_upper; a = a; b = w.o }

unfoldable pub altered : ℕ → Arc → Arc → Result Arc Misfit
altered i t third = do
  let w = side_of t i
  let v = side_of third i
  a ← figure (⊝ (Ok v.o ⊗ Ok w.e ⊘ Ok v.e))
  c ← figure (Ok t.cost ⊖ Ok third.cost ⊗ Ok w.e ⊘ Ok v.e)
  Ok (altered_arc w v a c)

-- "add arc n from node 1 to node 2, with a_n = -a_2 b_1, b_n = a_1 b_2, c_n = c_2 a_1 - c_1 a_2"; for negative supply
-- "from node 2 to node 1, with a_n = -a_1 b_2, b_n = a_2 b_1, c_n = c_1 a_2 - c_2 a_1": t and s are arcs 1 and 2, or 2 and 1
abbrev pub added_arc : Side → Side → Fraction → Fraction → Fraction → Fraction → Fraction → Arc
added_arc w v l u a b c = record { from = w.other; to = v.other; cost = c; lower = l; upper = u; a = a; b = b }

unfoldable pub between : ℕ → Arc → Arc → Fraction → Fraction → Result Arc Misfit
between i t s l u = do
  let w = side_of t i
  let v = side_of s i
  a ← figure (⊝ (Ok v.e ⊗ Ok w.o))
  b ← figure (Ok w.e ⊗ Ok v.o)
  c ← figure (Ok s.cost ⊗ Ok w.e ⊖ Ok t.cost ⊗ Ok v.e)
  Ok (added_arc w v l u a b c)

-- its bounds: l_n = l_2 / a_1 and u_n = (r_m - a_1 l_1) / a_1 a_2, for negative supply l_n = -l_2 / a_1 and u_n = (a_1 l_1 - r_m) / a_1 a_2.
-- "Its lower bound is the flow at which, the altered arcs carrying 0, arc 2 stands at its lower bound, its upper the one at which arc 1 does,
-- exchanged if more of it means less on arc 2": more of it means more on arc 2, by e of arc 1 for positive supply and by -e for negative, so
-- that the two are never exchanged. "Of these only the results must fit"
abbrev pub low_of : Bool → Arc → Side → Worked
low_of below t2 w1 = turned below (Ok t2.lower ⊘ Ok w1.e)

abbrev pub high_of : Bool → Fraction → Arc → Side → Side → Worked
high_of below r t1 w1 w2 = turned below (share_of r w1.e t1.lower w2.e)

abbrev pub added : ℕ → Bool → Arc → Arc → Fraction → Fraction → Result Arc Misfit
added i below t1 t2 l u = between i (cond below t2 t1) (cond below t1 t2) l u

abbrev pub old_three : ℕ → Fraction → ArcUpdate → ArcUpdate → ArcUpdate → Old
old_three i r one two three = record { node = i; supply = r; one = one; two = two; three = three; four = no_update; new = no_numbers }

-- "altered arcs .. keep their numbers ..; the added arc takes the third one's number": a, b and c are these, s is the supply at `end`
abbrev pub joining : ℕ → Fraction → ArcUpdate → ArcUpdate → ArcUpdate → Arc → Arc → Arc → ℕ → Fraction → Fraction → Change
joining i r one two three a b c end s constant =
    record {
      edit =
          record {
            one = record { number = one.number; arc = a };
            two = record { number = two.number; arc = b };
            three = record { number = three.number; arc = c };
            four = no_update;
            left = record { node = end; supply = s };
            right = no_supply_update;
            gone = i;
            constant = constant;
          };
      old = old_three i r one two three;
    }

-- "r_1 = r_1 - r_m b_1 / a_1"; "the constant gains c1 × r ÷ e1"
-- node i has supply r, one and two are arcs 1 and 2 and three the third, and r' is the supply at arc 1's other end
unfoldable pub joined : Fraction → ℕ → Fraction → Fraction → ArcUpdate → ArcUpdate → ArcUpdate → Outcome
joined constant i r r' one two three = do
  let w = side_of one.arc i
  l ← fits (low_of (is_below r) two.arc w)
  u ← fits (high_of (is_below r) r one.arc w (side_of two.arc i))
  -- "where the lower is above the upper, the rule doesn't apply"
  only_where (not (is_less u l))
  c ← fits (added i (is_below r) one.arc two.arc l u)
  s ← fits (Ok r' ⊖ Ok r ⊗ Ok w.o ⊘ Ok w.e)
  a ← fits (altered i one.arc three.arc)
  b ← fits (altered i two.arc three.arc)
  z ← fits (gained constant one.arc w r)
  Ok (joining i r one two three a b c w.other s z)

-- "the two whose multiplier has the supply's sign", and the third of the other sign; "the other ends are three different nodes"
unfoldable pub sorted : Fraction → List Fraction → ℕ → ArcUpdate → ArcUpdate → ArcUpdate → Outcome
sorted constant supply i one two three = do
  let r = get_or supply i no_figure
  let below = is_below r
  only_where (has_sign_at one.arc i below && (has_sign_at two.arc i below && has_sign_at three.arc i (not below)))
  only_where (is_rising one.arc && (is_rising two.arc && is_free three.arc))
  only_where (is_apart one.arc two.arc i && (is_apart one.arc three.arc i && is_apart two.arc three.arc i))
  joined constant i r (get_or supply (side_of one.arc i).other no_figure) one two three

-- "degree equal three"; "with supply zero the rule doesn't apply"
-- "arc 1 is the lower-numbered of the two whose multiplier has the supply's sign": x, y and z are the arcs there, upward, and the third is the one without that sign
unfoldable pub three : Fraction → List Fraction → ℕ → ℕ → ArcUpdate → ArcUpdate → ArcUpdate → Outcome
three constant supply i d x y z = do
  let below = is_below (get_or supply i no_figure)
  only_where (eqb d 3)
  only_where (not (is_zero (get_or supply i no_figure)))
  cond (has_sign_at x.arc i below) (cond (has_sign_at y.arc i below) (sorted constant supply i x y z) (sorted constant supply i x z y)) (sorted constant supply i y z x)

unfoldable pub three_way : Net → ℕ → Outcome
three_way net i = do
  only_where (is_here net i)
  three net.constant net.supply i (degree_of net i) (old_arc net (first_at net i)) (old_arc net (second_at net i)) (old_arc net (third_at net i))

-- ---- the way back

abbrev pub restored_three : ArcUpdate → Fraction → ArcUpdate → Fraction → ArcUpdate → Fraction → ℕ → Fraction → Restored
restored_three one x two y three z i p = record { one = flow_of three z; two = flow_of two y; three = flow_of one x; four = no_flow_update; price = record { node = i; price = p } }

-- Propositions 2 and 3: "r_m / a_1 + x_1 - a_2 x_n, x_2 + a_1 x_n, .., -(a_1 x_1 + a_2 x_2) / b", for negative supply
-- "r_m / a_1 + x_1 + a_2 x_n, x_2 - a_1 x_n, ..". "Take the smaller of (c - o × other price) ÷ e over arcs 1 and 2 for positive
-- supply, the larger for negative."
unfoldable pub three_back : Old → Pair → Undone
three_back old pair = do
  let i = old.node
  let r = old.supply
  let below = is_below r
  let t1 = old.one
  let t2 = old.two
  let t3 = old.three
  let e1 = Ok (side_of t1.arc i).e
  let e2 = Ok (side_of t2.arc i).e
  let y1 = Ok (flow_at pair t1.number)
  let y2 = Ok (flow_at pair t2.number)
  let y3 = Ok (flow_at pair t3.number)
  x ← figure (Ok r ⊘ e1 ⊕ y1 ⊖ turned below (e2 ⊗ y3))
  y ← figure (y2 ⊕ turned below (e1 ⊗ y3))
  z ← figure (⊝ ((e1 ⊗ y1 ⊕ e2 ⊗ y2) ⊘ Ok (side_of t3.arc i).e))
  p ← figure (quote_of t1.arc i pair)
  q ← figure (quote_of t2.arc i pair)
  Ok (restored_three t1 x t2 y t3 z i (cond below (larger p q) (smaller p q)))

abbrev pub rule : Rule
rule = record { last = max_nodes; at = three_way; back = three_back; trial = record { degree = 3; balanced = false; by = λ constant supply i d near. three constant supply i d near.one near.two near.three } }
