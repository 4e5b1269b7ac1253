-- Arcs that meet at a node, in exact numbers: their signs there, free arcs, and new arcs between their other ends. For rule 8.
use mathlib.Core.Path.{◌≡◌, refl, sym, ap, ◌∙◌}
use mathlib.Core.Bool.{Bool, true, false, cond, not}
use mathlib.Core.Logic.{inr}
use mathlib.Core.Option.{none, some}
use Prim.Native.Nat.{ℕ}
use lib.Dec.{T}
use borrow.Author.Tests.{eqb-false, ne_eqb, not-true}
use Rattle.algebra.specs.Rat.{0_ℚ as 𝟘, ◌<ℚ◌}
use Rattle.algebra.proofs.Order.{lt→le}
use Rattle.presolve.proofs.Rewire.{OpenArc}
use Rattle.fraction.specs.declared.Fraction.{Fraction}
use Rattle.fraction.specs.Exact.{Proper, zero_fraction, no_lower, no_upper, is_zero, is_same}
use Rattle.fraction.specs.Value.{value}
use Rattle.fraction.proofs.Laws.{and_both}
use Rattle.fraction.proofs.Value.{same-is}
use Rattle.fraction.proofs.Formulas.{Nonzero, zero-proper, zero_is}
use Rattle.network.specs.declared.Arc.{Arc}
use Rattle.network.specs.declared.Net.{Net}
use Rattle.network.specs.declared.Side.{Side}
use Rattle.network.specs.Network.{arc_at, is_here, is_touching, is_root, side_of}
use Rattle.network.specs.Legal.{Bound, LegalArc, Legal}
use Rattle.network.specs.Program.{bound_of, exact_of}
use Rattle.network.proofs.Bounds.{bound-is, no-upper}
use Rattle.network.proofs.Kept.{here-number, used-within}
use Rattle.step.specs.Junction.{sign_by, has_sign_at, is_free, is_apart}
use Rattle.step.proofs.Frame.{Puts, Tame}
use Rattle.step.proofs.Touch.{unlike, touches}
use Rattle.step.proofs.Exactly.{Far, arc-in}
use Rattle.step.proofs.Figures.{above_zero, below-zero}
use Rattle.step.proofs.Node.{AtNode, at-node}

-- ---- the sign of an arc's multiplier at a node

-- whether arc j has that sign
abbrev pub signs : Net → ℕ → Bool → ℕ → Bool
signs net i below j = has_sign_at (arc_at net j) i below

-- that sign, in exact numbers
abbrev pub Signed : Net → ℕ → Bool → ℕ → Type 0
Signed net i below j = cond below (value (side_of (arc_at net j) i).e <ℚ 𝟘) (𝟘 <ℚ value (side_of (arc_at net j) i).e)

-- an arc with a sign at a node touches it
pub sign-touches : (net : Net) (i : ℕ) (below : Bool) (j : ℕ) → signs net i below j ≡ true → touches net i j ≡ true
unfolding has_sign_at
sign-touches net i below j = by (touches net i j) refl
  where
    by : (s : Bool) → touches net i j ≡ s → sign_by s below (side_of (arc_at net j) i).e ≡ true → touches net i j ≡ true
    by true e t = e
    by false e t = unlike t

module _ (net : Net) (g : Legal net) (i : ℕ) (here : is_here net i ≡ true) where
  pub sign-is : (below : Bool) (j : ℕ) → signs net i below j ≡ true → Signed net i below j
  unfolding has_sign_at
  sign-is true j s = let t = sign-touches net i true j s in below-zero (at-node net g i here j t).near.proper (rw t at s)
  sign-is false j s = let t = sign-touches net i false j s in above_zero (at-node net g i here j t).near.proper (rw t at s)

  -- arcs of the two signs are two arcs
  pub unlike-signs : (x y : ℕ) → signs net i false x ≡ true → signs net i true y ≡ true → x ≡ y → ⊥
  unlike-signs x y s t z = sign-is true x (rw z t) (lt→le (sign-is false x s))

-- ---- bounds and ends

-- no upper bound
pub open-upper : (u : Fraction) → is_same u no_upper ≡ true → bound_of u ≡ none
open-upper u e = ap bound_of (same-is u no_upper e) ∙ no-upper

-- the bound 0
pub zero-bound : bound_of zero_fraction ≡ some 𝟘
zero-bound = bound-is zero-proper ∙ ap some zero_is

-- a free arc at a node
pub record Free (net : Net) (i j : ℕ) : Type 0 where
  pub at : AtNode net i j
  pub far : Far net i (side_of (arc_at net j) i)
  pub is_open : OpenArc (exact_of net) j

pub free-at : {net : Net} {i j : ℕ} → AtNode net i j → is_free (arc_at net j) ≡ true → Free net i j
unfolding exact_of is_free is_zero
free-at {net} {j = j} n f =
    let r = and_both (not (is_root (arc_at net j))) _ f in
    let z = and_both (is_zero (arc_at net j).lower) _ r.1 in
    record { at = n; far = n.far (not-true _ r.0); is_open = record { is_in = n.is_in; lower_0 = ap bound_of (same-is (arc_at net j).lower zero_fraction z.0) ∙ zero-bound; free = open-upper _ z.1 } }

pub ends-differ : (t s : Arc) (i : ℕ) → is_apart t s i ≡ true → ¬ ((side_of t i).other ≡ (side_of s i).other)
unfolding is_apart
ends-differ t s i e = eqb-false _ _ (not-true _ e)

-- ---- a new arc: it is legal, and does not touch the node

pub record NewArc (net : Net) (i : ℕ) (t : Arc) : Type 0 where
  legal : LegalArc net t
  clear : is_touching t i ≡ false

-- from the other end of one arc to that of another
pub new-arc : {net : Net} {i : ℕ} (t s : Side) {l u a b c : Fraction} → Far net i t → Far net i s → ¬ (t.other ≡ s.other) → Bound no_lower l → Bound no_upper u → Nonzero a → Nonzero b → Proper c → NewArc net i (record { from = t.other; to = s.other; cost = c; lower = l; upper = u; a = a; b = b })
unfolding is_root is_touching
new-arc {i = i} t s ft fs ne l u a b c =
    record {
      legal =
          record {
            from_here = ft.here;
            to_here = fs.here;
            cost_proper = c;
            lower_bound = l;
            upper_bound = u;
            a_proper = a.proper;
            b_proper = b.proper;
            a_nonzero = a.nonzero;
            b_zero = b.nonzero ∙ sym (ne_eqb t.other s.other ne);
          };
      clear = rw (ne_eqb t.other i ft.apart, ne_eqb s.other i fs.apart);
    }

module _ {net : Net} (g : Legal net) {i : ℕ} {t : Arc} (n : NewArc net i t) where
  -- it takes the number of an arc at the node
  pub new-puts : {k : ℕ} → AtNode net i k → Puts net i (record { number = k; arc = t }) × Tame net (record { number = k; arc = t })
  new-puts {k} u = (record { may = inr ((used-within g k u.used).1, n.legal); clear = λ l. n.clear }, inr (λ l. u.used))

  pub new_in : (net' : Net) (k : ℕ) → arc_at net' k ≡ t → T ((exact_of net').arc? k)
  new_in net' k e = arc-in net' k (rw e (here-number g _ n.legal.from_here).0)
