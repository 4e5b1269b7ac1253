-- The comparison of figures is the order of fractions and both marks.
use mathlib.Core.Path.{◌≡◌, refl, sym, ap, ap₂, ◌∙◌}
use mathlib.Core.Bool.{true, false, and-false}
use mathlib.Core.Logic.{◌↔◌}
use Prim.Native.Nat.{ℕ, zero, suc, ◌<◌}
use native.Mathlib.Nat.{zero-lt-suc, one-mul}
use native.Mathlib.Omega.{arith}
use lib.IntN.{ℤ, pos, negsuc, neg_ℤ, ◌*ℤ◌, *ℤ-zero}
use borrow.Author.Tests.{lt-ltb, le-ltb, ne_eqb}
use lib.Signed.{lt_z}
use Rattle.algebra.specs.Rat.{ℚ, ◌≤ℚ◌, ◌<ℚ◌}
use Rattle.algebra.proofs.Rat.{≤ℚ-dec}
use Rattle.algebra.proofs.Frac.{frac-lt}
use Rattle.fraction.specs.declared.Fraction.{Fraction}
use Rattle.fraction.specs.Exact.{Proper, over, is_less}
use Rattle.fraction.specs.Extended.{Extended, number, Below, Figure, fraction, absent-lower, absent-upper}
use Rattle.fraction.proofs.Laws.{never}
use Rattle.fraction.specs.Value.{value}

unlike : {X : Type 0} → false ≡ true → X
unlike e = never cc

minus_one : (d : ℕ) → negsuc 0 *ℤ pos (suc d) ≡ negsuc d
minus_one d = ap (λ (k : ℕ). neg_ℤ (pos k)) (one-mul (suc d))

plus_one : (d : ℕ) → pos 1 *ℤ pos (suc d) ≡ pos (suc d)
plus_one d = ap pos (one-mul (suc d))

-- a fraction on one side: the cross products decide
left : (n m : ℤ) (d e : ℕ) → is_less (over n (suc d)) (over m e) ≡ lt_z (n *ℤ pos e) (m *ℤ pos (suc d))
unfolding is_less
left n m d e = rw (ne_eqb (suc d) 0 (λ e. omega arith))

right : (n m : ℤ) (d e : ℕ) → is_less (over n e) (over m (suc d)) ≡ lt_z (n *ℤ pos (suc d)) (m *ℤ pos e)
unfolding is_less
right n m d e = rw (ne_eqb (suc d) 0 (λ e. omega arith), and-false)

marks : (n m : ℤ) → is_less (over n 0) (over m 0) ≡ lt_z n m
unfolding is_less
marks n m = refl

-- the test is the order
pub less-is : {x y : Fraction} {p q : Extended} → Figure x p → Figure y q → is_less x y ≡ true ↔ Below p q
unfolding value
less-is (fraction n d) (fraction m e) = rw (left n m d (suc e)) (frac-lt n (suc d) m (suc e) (zero-lt-suc d) (zero-lt-suc e))
less-is (fraction n d) absent-lower = rw (left n (negsuc 0) d 0 ∙ ap₂ lt_z (*ℤ-zero n) (minus_one d)) (λ e. unlike e, λ b. absurd b)
less-is (fraction n d) absent-upper = rw (left n (pos 1) d 0 ∙ ap₂ lt_z (*ℤ-zero n) (plus_one d) ∙ lt-ltb 0 (suc d) (zero-lt-suc d)) (λ e. tt, λ b. refl)
less-is absent-lower (fraction n d) = rw (right (negsuc 0) n d 0 ∙ ap₂ lt_z (minus_one d) (*ℤ-zero n)) (λ e. tt, λ b. refl)
less-is absent-lower absent-lower = rw (marks (negsuc 0) (negsuc 0)) (λ e. unlike e, λ b. absurd b)
less-is absent-lower absent-upper = rw (marks (negsuc 0) (pos 1)) (λ e. tt, λ b. refl)
less-is absent-upper (fraction n d) = rw (right (pos 1) n d 0 ∙ ap₂ lt_z (plus_one d) (*ℤ-zero n) ∙ le-ltb (suc d) 0 (omega arith)) (λ e. unlike e, λ b. absurd b)
less-is absent-upper absent-lower = rw (marks (pos 1) (negsuc 0)) (λ e. unlike e, λ b. absurd b)
less-is absent-upper absent-upper = rw (marks (pos 1) (pos 1)) (λ e. unlike e, λ b. absurd b)

-- ---- fractions in form

pub proper-figure : {x : Fraction} → Proper x → Figure x (number (value x))
proper-figure {x} p = at x.num x.den p.operand.den_pos
  where
    at : (n : ℤ) (d : ℕ) → 0 < d → Figure (over n d) (number (value (over n d)))
    at n zero h = absurd (omega arith)
    at n (suc d) h = fraction n d

-- where the test fails, the order is the other way
pub not_below : {x y : Fraction} {p q : ℚ} → Figure x (number p) → Figure y (number q) → is_less x y ≡ false → q ≤ℚ p
not_below {p = p} {q} a b e = by (≤ℚ-dec q p)
  where
    by : Dec (q ≤ℚ p) → q ≤ℚ p
    by (yes h) = h
    by (no n) = unlike (sym e ∙ (less-is a b).1 n)

module _ {x y : Fraction} (p : Proper x) (q : Proper y) where
  pub less-value : is_less x y ≡ true → value x <ℚ value y
  less-value = (less-is (proper-figure p) (proper-figure q)).0

  pub value-less : value x <ℚ value y → is_less x y ≡ true
  value-less = (less-is (proper-figure p) (proper-figure q)).1

  pub not-less : is_less x y ≡ false → value y ≤ℚ value x
  not-less = not_below (proper-figure p) (proper-figure q)
