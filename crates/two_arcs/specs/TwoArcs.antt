-- Rule 5, two arcs (01, "The six reductions"): a doubleton row.
use Rattle.std.specs.Prelude.{Bool, false, cond, not, List, ℕ, eqb, get_or}
use Rattle.fraction.specs.declared.Fraction.{Fraction}
use Rattle.fraction.specs.Exact.{Worked}
use Rattle.std.specs.Prelude.{Ok}
use Rattle.fraction.specs.Exact.{zero_fraction, no_figure, is_finite, is_less}
use Rattle.fraction.specs.Formula.{◌⊖◌, ◌⊗◌, ◌⊘◌, ⊝◌}
use Rattle.network.specs.declared.Arc.{Arc}
use Rattle.network.specs.declared.Net.{Net}
use Rattle.network.specs.declared.Side.{Side}
use Rattle.network.specs.declared.ArcUpdate.{ArcUpdate}
use Rattle.network.specs.declared.Edit.{Edit}
use Rattle.network.specs.declared.pair.Pair.{Pair}
use Rattle.network.specs.Limits.{max_nodes}
use Rattle.network.specs.Network.{no_arc, no_supply_update, edit_two, is_here, degree_of, is_root, side_of}
use Rattle.network.specs.Pair.{price_at, flow_at}
use Rattle.slackness.specs.Slackness.{keeps_rule}
use Rattle.step.specs.declared.Old.{Old}
use Rattle.step.specs.Outcome.{Outcome}
use Rattle.step.specs.Back.{Undone}
use Rattle.step.specs.Figure.{larger, smaller, ◌<$>◌}
use Rattle.step.specs.Outcome.{◌>>=◌, ◌>>◌, only_where, fits}
use Rattle.step.specs.Back.{figure, old_arc, old_two, flow_and_price, quote_of}
use Rattle.step.specs.Around.{first_at, second_at}
use Rattle.step.specs.Dropped.{gained}
use Rattle.step.specs.Run.{Rule}

-- "ej and ek have the same sign"
unfoldable pub same_sign : Fraction → Fraction → Bool
same_sign x y = cond (is_less zero_fraction x) (is_less zero_fraction y) (not (is_less zero_fraction y))

-- "each finite bound z of k gives [its image] as a bound of j; the tighter bound of each side stays"
unfoldable pub tighter : (Fraction → Fraction → Fraction) → Fraction → Fraction → Worked → Worked
tighter pick own z image = cond (is_finite z) (pick own <$> image) (Ok own)

-- "(r - ek × z) ÷ ej"
unfoldable pub image_of : Fraction → Side → Side → Fraction → Worked
image_of r wj wk z = (Ok r ⊖ Ok wk.e ⊗ Ok z) ⊘ Ok wj.e

-- "j now runs from its other end .. to k's other end; if k is a root arc j becomes a root arc"
abbrev pub new_arc : Side → Side → Fraction → Fraction → Fraction → Fraction → Arc
new_arc wj wk c l u b = record { from = wj.other; to = cond (eqb wk.other 0) wj.other wk.other; cost = c; lower = l; upper = u; a = wj.o; b = b }

-- two arcs are put, a supply is set, a node is dropped, and the constant is set
abbrev pub merging : ℕ → Arc → ℕ → ℕ → Fraction → ℕ → Fraction → Edit
merging j t k node s gone constant = edit_two (record { number = j; arc = t }) (record { number = k; arc = no_arc }) (record { node = node; supply = s }) no_supply_update gone constant

-- j, tj, is kept and k, tk, goes, at node i of supply r; wj and wk are their sides there, and r' is the supply at k's other end
unfoldable pub merged : Fraction → ℕ → ℕ → Arc → Side → ℕ → Arc → Side → Fraction → Fraction → Outcome
merged constant i j tj wj k tk wk r r' = do
  let root = eqb wk.other 0
  let exchanged = same_sign wj.e wk.e
  c ← fits (Ok tj.cost ⊖ Ok tk.cost ⊗ Ok wj.e ⊘ Ok wk.e)
  l ← fits (tighter larger tj.lower (cond exchanged tk.upper tk.lower) (image_of r wj wk (cond exchanged tk.upper tk.lower)))
  u ← fits (tighter smaller tj.upper (cond exchanged tk.lower tk.upper) (image_of r wj wk (cond exchanged tk.lower tk.upper)))
  b ← fits (cond root (Ok zero_fraction) (⊝ (Ok wk.o ⊗ Ok wj.e ⊘ Ok wk.e)))
  s ← fits (cond root (Ok no_figure) (Ok r' ⊖ Ok wk.o ⊗ Ok r ⊘ Ok wk.e))
  -- "rule 5 adds ck × r ÷ ek" to the constant (02, 2026-01)
  z ← fits (gained constant tk wk r)
  Ok (record { edit = merging j (new_arc wj wk c l u b) k wk.other s i z; old = old_two i r (record { number = j; arc = tj }) (record { number = k; arc = tk }) })

-- "not both root arcs, other ends different (a root arc has none and so differs)": no other end is 0, so that two root arcs' are equal
unfoldable pub kept : Fraction → List Fraction → ℕ → ArcUpdate → ArcUpdate → Outcome
kept constant supply i j k = do
  let wj = side_of j.arc i
  let wk = side_of k.arc i
  only_where (not (eqb wj.other wk.other))
  merged constant i j.number j.arc wj k.number k.arc wk (get_or supply i no_figure) (get_or supply wk.other no_figure)

-- "degree 2"; "kept arc j: the lower number unless it is a root arc; k the other"
-- node i has degree d, and t and u are the first two arcs there
unfoldable pub two : Fraction → List Fraction → ℕ → ℕ → ArcUpdate → ArcUpdate → Outcome
two constant supply i d t u = do
  only_where (eqb d 2)
  cond (is_root t.arc) (kept constant supply i u t) (kept constant supply i t u)

unfoldable pub two_arcs : Net → ℕ → Outcome
two_arcs net i = do
  only_where (is_here net i)
  two net.constant net.supply i (degree_of net i) (old_arc net (first_at net i)) (old_arc net (second_at net i))

-- "Back: flow of k is (r - ej × flow j) ÷ ek; first price (ck - ok × other price) ÷ ek; if cj - oj × other price - ej × price breaks the price rule
-- on j's old bounds, the price is (cj - oj × other price) ÷ ej instead."
unfoldable pub two_back : Old → Pair → Undone
two_back old pair = do
  let i = old.node
  let r = old.supply
  let tj = old.one.arc
  let tk = old.two.arc
  let wj = side_of tj i
  let wk = side_of tk i
  let x = flow_at pair old.one.number
  y ← figure ((Ok r ⊖ Ok wj.e ⊗ Ok x) ⊘ Ok wk.e)
  first ← figure (quote_of tk i pair)
  d ← figure (Ok tj.cost ⊖ Ok wj.o ⊗ Ok (price_at pair wj.other) ⊖ Ok wj.e ⊗ Ok first)
  p ← figure (cond (keeps_rule tj.lower tj.upper x d) (Ok first) (quote_of tj i pair))
  Ok (flow_and_price old.two.number y i p)

abbrev pub rule : Rule
rule = record { last = max_nodes; at = two_arcs; back = two_back; trial = record { degree = 2; balanced = false; by = λ constant supply i d near. two constant supply i d near.one near.two } }
