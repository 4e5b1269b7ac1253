-- Formulas whose result fits: their operands, the form of the result and its value in ℚ.
use mathlib.Core.Path.{◌≡◌, refl, sym, ap, ap₂, ◌∙◌}
use mathlib.Core.Bool.{Bool, true, false, cond}
use mathlib.Core.Logic.{⊎_elim}
use Prim.Native.Nat.{◌<◌}
use native.Mathlib.Nat.{eq-zero-or-pos}
use native.Mathlib.Omega.{arith}
use lib.IntN.{pos, nat_abs}
use Rattle.integer.specs.Gcd.{gcd, gcd_by}
use Rattle.integer.specs.Whole.{nat_abs-neg_ℤ, nat_abs_mul}
use Rattle.algebra.proofs.Solver.{◌:*◌, :neg, :0, ◌:=◌, ring1}
use Rattle.algebra.specs.Rat.{ℚ, ◌+ℚ◌, ◌*ℚ◌, -ℚ◌, inv_ℚ, 0_ℚ}
use Rattle.algebra.proofs.Rat.{ℚ-ring, mul_ℚ-inv, one≢zero_ℚ}
use Rattle.algebra.proofs.Frac.{frac-int, frac-exact}
use Rattle.algebra.proofs.Inverse.{mul-ne}
use Rattle.fraction.specs.declared.Fraction.{Fraction}
use Rattle.fraction.specs.Exact.{Worked, misfit}
use Rattle.std.specs.Prelude.{Ok, Err}
use Rattle.fraction.specs.Exact.{Operand, Proper, zero_fraction, is_operand, is_proper, is_zero, and_then, sum_of, difference_of, product_of, quotient_of, negation_of, reciprocal_of}
use Rattle.fraction.proofs.Laws.{never, operand-is, operands-are, proper-is}
use Rattle.fraction.specs.Value.{value, Works}
use Rattle.fraction.proofs.Value.{minus, minus-operand, minus-value, negation-is, sum-works, product-works, quotient-works, quotient-by-zero, zero-value, value-unique, same-is, is_same_lem}
use Rattle.fraction.specs.Formula.{worked, ◌⊕◌, ◌⊖◌, ◌⊗◌, ◌⊘◌, ⊝◌, divided, subtracted, negated, added, multiplied}

-- ---- zero

pub zero-proper : Proper zero_fraction
unfolding is_proper is_operand gcd gcd_by
zero-proper = proper-is zero_fraction refl

pub zero_is : value zero_fraction ≡ 0_ℚ
zero_is = zero-value zero_fraction zero-proper.operand refl

-- a fraction in form other than zero has a value other than 0, and the other way round
pub nonzero-value : {x : Fraction} → Proper x → is_zero x ≡ false → ¬ (value x ≡ 0_ℚ)
unfolding is_zero
nonzero-value {x} p e v = never (let z = sym e ∙ ap is_zero (value-unique x zero_fraction p zero-proper (v ∙ sym zero_is)) ∙ is_same_lem zero_fraction in cc)

pub value-nonzero : (x : Fraction) → ¬ (value x ≡ 0_ℚ) → is_zero x ≡ false
unfolding is_zero
value-nonzero x n = by (is_zero x) refl
  where
    by : (b : Bool) → is_zero x ≡ b → is_zero x ≡ false
    by true e = absurd (n (ap value (same-is x zero_fraction e) ∙ zero_is))
    by false e = e

-- the inverse and the negation of a number other than 0 are other than 0
pub inv-ne : {p : ℚ} → ¬ (p ≡ 0_ℚ) → ¬ (inv_ℚ p ≡ 0_ℚ)
inv-ne {p} n e = one≢zero_ℚ (sym (mul_ℚ-inv p n) ∙ ap (λ (q : ℚ). p *ℚ q) e ∙ ring1 ℚ-ring p (λ p. p :* :0 := :0) refl)

pub minus-ne : {p : ℚ} → ¬ (p ≡ 0_ℚ) → ¬ (-ℚ p ≡ 0_ℚ)
minus-ne {p} n e = n (ring1 ℚ-ring p (λ p. p := :neg (:neg p)) refl ∙ ap (λ (q : ℚ). -ℚ q) e ∙ ring1 ℚ-ring 0_ℚ (λ p. :neg :0 := :0) refl)

-- ---- the operations: where a result fits, the operands are operands, and it is in form and exact

pub record Exact (op : ℚ → ℚ → ℚ) (x y z : Fraction) : Type 0 where
  pub left_operand : Operand x
  pub right_operand : Operand y
  pub proper : Proper z
  pub exact : value z ≡ op (value x) (value y)

-- p less q, and p over q
abbrev pub less_ℚ : ℚ → ℚ → ℚ
less_ℚ p q = p +ℚ (-ℚ q)

abbrev pub over_ℚ : ℚ → ℚ → ℚ
over_ℚ p q = p *ℚ inv_ℚ q

-- what an operation answers that tests its operands first
pub tested : (t : Bool) (w : Worked) (z : Fraction) → cond t w (Err misfit) ≡ Ok z → t ≡ true
tested true w z e = refl
tested false w z e = never cc

-- the record of an operation, from its operands and its law
exact-of : {op : ℚ → ℚ → ℚ} {x y z : Fraction} {w : Worked} → Operand x × Operand y → Works w (op (value x) (value y)) → w ≡ Ok z → Exact op x y z
exact-of {z = z} o k e = record { left_operand = o.0; right_operand = o.1; proper = k.proper z e; exact = k.exact z e }

-- a numerator other than 0 has a value other than 0
pub numerator-nonzero : (x : Fraction) → Operand x → 0 < nat_abs x.num → ¬ (value x ≡ 0_ℚ)
unfolding value
numerator-nonzero x p h e =
    let z = ap nat_abs (frac-exact x.num x.den (pos 0) 1 p.den_pos (omega arith) (e ∙ sym (frac-int (pos 0)))) in
    omega (arith, sym (nat_abs_mul x.num (pos 1)) ∙ z ∙ nat_abs_mul (pos 0) (pos x.den))

sum_fits : (x y z : Fraction) → sum_of x y ≡ Ok z → Exact ◌+ℚ◌ x y z
unfolding sum_of
sum_fits x y z e = let o = operands-are x y (tested _ _ z e) in exact-of o (sum-works x y o.0 o.1) e

product-fits : (x y z : Fraction) → product_of x y ≡ Ok z → Exact ◌*ℚ◌ x y z
unfolding product_of
product-fits x y z e = let o = operands-are x y (tested _ _ z e) in exact-of o (product-works x y o.0 o.1) e

-- the negation of an operand: it is in form where the operand is
pub record Negated (x z : Fraction) : Type 0 where
  pub operand : Operand x
  pub proper : Proper x → Proper z
  pub exact : value z ≡ -ℚ (value x)

pub negation-fits : {x z : Fraction} → negation_of x ≡ Ok z → Negated x z
unfolding negation_of
negation-fits {x} {z} e =
    let o = operand-is x (tested _ _ z e) in
    let is : z ≡ minus x = let f = sym e ∙ negation-is x o in cc in
    record { operand = o; proper = λ p. rw is (record { operand = minus-operand x o; coprime = rw nat_abs-neg_ℤ p.coprime }); exact = rw is (minus-value x o) }

difference-fits : (x y z : Fraction) → difference_of x y ≡ Ok z → Exact less_ℚ x y z
unfolding difference_of
difference-fits x y z e = by (negation_of y) refl e
  where
    by : (w : Worked) → negation_of y ≡ w → and_then w (sum_of x) ≡ Ok z → Exact less_ℚ x y z
    by (Err m) f e = never cc
    by (Ok n) f e =
        let s = sum_fits x n z e in
        let k = negation-fits f in
        record { left_operand = s.left_operand; right_operand = k.operand; proper = s.proper; exact = s.exact ∙ ap (λ (q : ℚ). value x +ℚ q) k.exact }

quotient-operands : (x y z : Fraction) → quotient_of x y ≡ Ok z → Operand x × Operand y
unfolding quotient_of reciprocal_of
quotient-operands x y z e = by (reciprocal_of y) refl e
  where
    by : (w : Worked) → reciprocal_of y ≡ w → and_then w (product_of x) ≡ Ok z → Operand x × Operand y
    by (Err m) f e = never cc
    by (Ok t) f e = ((product-fits x t z e).left_operand, operand-is y (tested _ _ t f))

-- there is no quotient by 0
divisor-nonzero : (x y z : Fraction) → quotient_of x y ≡ Ok z → ¬ (value y ≡ 0_ℚ)
divisor-nonzero x y z e =
    ⊎_elim (λ h. never (let f = sym e ∙ quotient-by-zero x y h in cc)) (λ h. numerator-nonzero y (quotient-operands x y z e).1 h) (eq-zero-or-pos (nat_abs y.num))

quotient_fits : (x y z : Fraction) → quotient_of x y ≡ Ok z → Exact over_ℚ x y z
quotient_fits x y z e =
    let o = quotient-operands x y z e in
    exact-of o (quotient-works x y o.0 o.1 (divisor-nonzero x y z e)) e

-- ---- formulas: the operands of what fits have fitted

pub record Operands (op : ℚ → ℚ → ℚ) (x y : Worked) (z : Fraction) : Type 0 where
  pub left : Fraction
  pub right : Fraction
  pub left_fits : x ≡ Ok left
  pub right_fits : y ≡ Ok right
  pub is : Exact op left right z

both-fit : {op : Fraction → Fraction → Worked} {f : ℚ → ℚ → ℚ} → ((x y z : Fraction) → op x y ≡ Ok z → Exact f x y z) → {z : Fraction} (x y : Worked) → worked op x y ≡ Ok z → Operands f x y z
both-fit law (Ok x) (Ok y) e = record { left = x; right = y; left_fits = refl; right_fits = refl; is = law x y _ e }
both-fit law (Ok x) (Err m) e = never cc
both-fit law (Err m) y e = never cc

module _ {x y : Worked} {z : Fraction} where
  pub plus-fits : x ⊕ y ≡ Ok z → Operands ◌+ℚ◌ x y z
  unfolding added
  plus-fits e = both-fit sum_fits x y e

  pub minus-fits : x ⊖ y ≡ Ok z → Operands less_ℚ x y z
  unfolding subtracted
  minus-fits e = both-fit difference-fits x y e

  pub times-fits : x ⊗ y ≡ Ok z → Operands ◌*ℚ◌ x y z
  unfolding multiplied
  times-fits e = both-fit product-fits x y e

  pub over-fits : x ⊘ y ≡ Ok z → Operands over_ℚ x y z
  unfolding divided
  over-fits e = both-fit quotient_fits x y e

-- the same of a negation
pub record Opposite (x : Worked) (z : Fraction) : Type 0 where
  pub of : Fraction
  pub of_fits : x ≡ Ok of
  pub is : Negated of z

pub negated_fits : {x : Worked} {z : Fraction} → ⊝ x ≡ Ok z → Opposite x z
unfolding negated
negated_fits {x} {z} e = by x e
  where
    by : (x : Worked) → and_then x negation_of ≡ Ok z → Opposite x z
    by (Ok x) e = record { of = x; of_fits = refl; is = negation-fits e }
    by (Err m) e = never cc

-- ---- the value of a formula: q is the value of w, where w fits

abbrev pub Gives : Worked → ℚ → Type 0
Gives w q = (z : Fraction) → w ≡ Ok z → value z ≡ q

pub given : (x : Fraction) → Gives (Ok x) (value x)
given x z e = let f : z ≡ x = cc in ap value f

operands-give : {op : ℚ → ℚ → ℚ} {x y : Worked} {z : Fraction} {p q : ℚ} → Gives x p → Gives y q → Operands op x y z → value z ≡ op p q
operands-give {op} g h o = o.is.exact ∙ ap₂ op (g _ o.left_fits) (h _ o.right_fits)

module _ {x y : Worked} {p q : ℚ} (g : Gives x p) (h : Gives y q) where
  pub plus-gives : Gives (x ⊕ y) (p +ℚ q)
  plus-gives z e = operands-give g h (plus-fits e)

  pub minus-gives : Gives (x ⊖ y) (less_ℚ p q)
  minus-gives z e = operands-give g h (minus-fits e)

  pub times-gives : Gives (x ⊗ y) (p *ℚ q)
  times-gives z e = operands-give g h (times-fits e)

  pub over-gives : Gives (x ⊘ y) (over_ℚ p q)
  over-gives z e = operands-give g h (over-fits e)

-- the divisor of what fits is not zero
pub over-nonzero : (x y : Worked) (q : ℚ) {z : Fraction} → Gives y q → x ⊘ y ≡ Ok z → ¬ (q ≡ 0_ℚ)
unfolding divided
over-nonzero (Ok x) (Ok y) q {z} g e n = divisor-nonzero x y z e (g y refl ∙ n)
over-nonzero (Ok x) (Err m) q {z} g e n = never cc
over-nonzero (Err m) y q {z} g e n = never cc

pub negated-gives : {x : Worked} {p : ℚ} → Gives x p → Gives (⊝ x) (-ℚ p)
negated-gives g z e = let o = negated_fits e in o.is.exact ∙ ap (λ (q : ℚ). -ℚ q) (g _ o.of_fits)

-- ---- what is not zero: products, quotients and negations of such are not either

-- a fraction in form other than 0
pub record Nonzero (z : Fraction) : Type 0 where
  pub proper : Proper z
  pub nonzero : is_zero z ≡ false

-- w is not zero, where it fits
abbrev pub Unvanishing : Worked → Type 0
Unvanishing w = (z : Fraction) → w ≡ Ok z → Nonzero z

pub unvanishing : {x : Fraction} → Nonzero x → Unvanishing (Ok x)
unvanishing {x} n z e = let f : z ≡ x = cc in rw f n

by_value : {z : Fraction} {q : ℚ} → Proper z → value z ≡ q → ¬ (q ≡ 0_ℚ) → Nonzero z
by_value {z} p e n = record { proper = p; nonzero = value-nonzero z (λ v. n (sym e ∙ v)) }

of-value : {z : Fraction} → Nonzero z → ¬ (value z ≡ 0_ℚ)
of-value n = nonzero-value n.proper n.nonzero

module _ {x y : Worked} (g : Unvanishing x) (h : Unvanishing y) where
  pub times-unvanishing : Unvanishing (x ⊗ y)
  times-unvanishing z e =
      let o = times-fits e in
      by_value o.is.proper o.is.exact (mul-ne (of-value (g _ o.left_fits)) (of-value (h _ o.right_fits)))

  pub over-unvanishing : Unvanishing (x ⊘ y)
  over-unvanishing z e =
      let o = over-fits e in
      by_value o.is.proper o.is.exact (mul-ne (of-value (g _ o.left_fits)) (inv-ne (of-value (h _ o.right_fits))))

pub negated-unvanishing : {x : Worked} → Unvanishing x → Unvanishing (⊝ x)
negated-unvanishing g z e =
    let o = negated_fits e in
    let n = g _ o.of_fits in
    by_value (o.is.proper n.proper) o.is.exact (minus-ne (of-value n))
