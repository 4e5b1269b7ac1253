-- Both signs of supply in exact numbers: a figure that turns with the sign, and the price that is nearer to it.
use mathlib.Core.Path.{◌≡◌, refl, ap, ap₂, ◌∙◌, subst}
use mathlib.Core.Bool.{Bool, true, false, cond, not}
use mathlib.Core.Logic.{inl}
use mathlib.Core.Option.{some}
use Rattle.algebra.proofs.Ring.{combo2}
use Rattle.algebra.proofs.Solver.{◌:+◌, ◌:*◌, ◌:-◌, :neg, :0, :1, ◌:=◌, ring1, ring2, ring3}
use Rattle.algebra.specs.Rat.{ℚ, ◌*ℚ◌, -ℚ◌, 0_ℚ as 𝟘, 1_ℚ as 𝟙, inv_ℚ as inv, ◌<ℚ◌}
use Rattle.algebra.proofs.Rat.{ℚ-ring, mul_ℚ-inv as mul_inv}
use Rattle.algebra.proofs.Order.{le-by, sub-nn}
use Rattle.algebra.proofs.Inverse.{inv_unique}
use Rattle.presolve.proofs.Bounds.{capped}
use Rattle.presolve.proofs.Spoke.{plus, minus, sgn, sgn-square, nearer}
use Rattle.presolve.proofs.Spoke as Spoke
use Rattle.fraction.specs.declared.Fraction.{Fraction}
use Rattle.fraction.specs.Exact.{Worked}
use Rattle.fraction.proofs.Exactly.{Exactly, same}
use Rattle.network.proofs.Bounds.{bound-is}
use Rattle.step.specs.Figure.{larger, smaller}
use Rattle.step.proofs.Figures.{Figure, negated-exactly, larger-is, smaller-is}
use Rattle.three_way.specs.ThreeWay.{turned}

-- the side of a supply below 0, or of another
abbrev pub side_by : Bool → Spoke.Side
side_by true = minus
side_by false = plus

-- ---- w, turned with the sign

pub turned-exactly : (below : Bool) {w : Worked} {p : ℚ} → Exactly w p → Exactly (turned below w) (sgn (side_by below) *ℚ p)
unfolding turned
turned-exactly true {p = p} k = same (ring1 ℚ-ring p (λ p. :neg p := :neg :1 :* p) refl) (negated-exactly k)
turned-exactly false {p = p} k = same (ring1 ℚ-ring p (λ p. p := :1 :* p) refl) k

-- its inverse
pub turned-inverse : (d : Spoke.Side) {e : ℚ} → ¬ (e ≡ 𝟘) → sgn d *ℚ inv e ≡ inv (sgn d *ℚ e)
turned-inverse d {e} n =
    inv_unique (λ z. n (combo2 ℚ-ring (sgn d) (-ℚ e) z (sgn-square d).square (ring2 ℚ-ring (sgn d) e (λ s e. e :- :0 := s :* (s :* e :- :0) :+ :neg e :* (s :* s :- :1)) refl)))
    (combo2 ℚ-ring (sgn d *ℚ sgn d) 𝟙 (mul_inv e n) (sgn-square d).square (ring3 ℚ-ring (sgn d) e (inv e) (λ s e i. s :* e :* (s :* i) :- :1 := s :* s :* (e :* i :- :1) :+ :1 :* (s :* s :- :1)) refl))

-- ---- a number with the sign, or against it

pub with-sign : (below : Bool) (e : ℚ) → cond below (e <ℚ 𝟘) (𝟘 <ℚ e) → 𝟘 <ℚ sgn (side_by below) *ℚ e
with-sign true e s k = s (le-by (sub-nn k) (ring1 ℚ-ring e (λ e. e :- :0 := :0 :- :neg :1 :* e) refl))
with-sign false e s k = s (le-by (sub-nn k) (ring1 ℚ-ring e (λ e. :0 :- e := :0 :- :1 :* e) refl))

pub against-sign : (below : Bool) (e : ℚ) → cond (not below) (e <ℚ 𝟘) (𝟘 <ℚ e) → sgn (side_by below) *ℚ e <ℚ 𝟘
against-sign true e s k = s (le-by (sub-nn k) (ring1 ℚ-ring e (λ e. :0 :- e := :neg :1 :* e :- :0) refl))
against-sign false e s k = s (le-by (sub-nn k) (ring1 ℚ-ring e (λ e. e :- :0 := :1 :* e :- :0) refl))

-- ---- the price

pub nearer-is : {x y : Fraction} {p q : ℚ} → Figure x p → Figure y q → (below : Bool) → Figure (cond below (larger x y) (smaller x y)) (nearer (side_by below) p q)
nearer-is a b true = larger-is a b
nearer-is {x} {y} a b false = subst (Figure (smaller x y)) (ap₂ capped (bound-is a.0 ∙ ap some a.1) b.1) (smaller-is (inl a.0) b.0)
