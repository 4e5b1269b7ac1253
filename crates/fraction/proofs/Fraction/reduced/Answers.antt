use Prim.Native.Nat.{ℕ, ◌*◌, ◌/◌, ◌<◌, ◌≤◌}
use Rattle.fraction.proofs.Machine.{narrow-is}
use Rattle.fraction.proofs.OverOne.{reduce-whole}
use Rattle.fraction.specs.Exact.{fitted, over, reduce_of}
use Rattle.fraction.proofs.Laws.{fitted-no-den, fitted-no-num, fitted-yes, reduce-by, reduce-zero}
use Rattle.std.specs.Prelude.{Ok}
use Rattle.integer.specs.Gcd.{gcd, gcd-pos, DivisorFrom}
use Rattle.integer.specs.Whole.{nat_abs-signed, signed}
use borrow.Author.Tests.{ltb-false, ltb-true}
use lib.Dec.{ltb}
use lib.IntN.{nat_abs, ℤ}
use mathlib.Core.Bool.{Bool, false, true}
use mathlib.Core.Path.{◌∙◌, ◌≡◌, ap, refl, sym}
use mir.Facts.{to_z-of_z}
use mir.Syntax.{w64}
use mir.Val.{SFits, of_z, to_z}
use native.Mathlib.Nat.{div-mul-le_self, le-div_iff_mul-le, le_trans, mul-le-mul_left}
use native.Mathlib.Omega.{arith}
use Rattle.fraction.proofs.Fraction.reduced.Goals as goal

read : (z : ℤ) → SFits w64 z → to_z w64 (of_z w64 z) ≡ z
read z h = to_z-of_z h

-- a lower divisor gives no lower quotient
div_mono : (x g r : ℕ) → 0 < g → g ≤ r → x / r ≤ x / g
div_mono x g r h l = (le-div_iff_mul-le h).1 (le_trans (mul-le-mul_left (x / r) l) (div-mul-le_self x r))

-- a divisor below the limit gives a denominator beyond range
beyond : (d r : ℕ) → 0 < r → r < d / 2147483648 → 2147483647 < d / r
beyond d r h l =
    let p : r * 2147483648 ≤ d = (le-div_iff_mul-le {k = 2147483648} (omega arith)).0 (omega arith) in
    let q : 2147483648 ≤ d / r = (le-div_iff_mul-le h).1 (omega arith) in
    omega arith

module _ (z : ℤ) (d n g : ℕ) (f : SFits w64 z) (hd : ¬ (d ≡ 0)) (hn : n ≡ nat_abs (to_z w64 (of_z w64 z))) (D : DivisorFrom (d / 2147483648) n d g) where
  size_is : n ≡ nat_abs z
  size_is = hn ∙ ap nat_abs (read z f)

  -- over the divisor
  lowest : reduce_of z d ≡ fitted (signed z (n / gcd n d)) (d / gcd n d)
  lowest = reduce-by _ _ _ _ hd size_is refl

  less : (x : ℕ) → x / g ≤ x / gcd n d
  less x = div_mono x _ _ (gcd-pos n d (omega arith)) D.enough

  -- over what was found, where the denominator is within range
  answer : d / g ≤ 2147483647 → reduce_of z d ≡ fitted (signed z (n / g)) (d / g)
  answer h = reduce-by _ _ _ _ hd size_is (by (ltb g (d / 2147483648)) refl)
    where
      by : (b : Bool) → ltb g (d / 2147483648) ≡ b → g ≡ gcd n d
      by true e = absurd (omega (arith, beyond _ _ (D.positive (omega arith)) (ltb-true _ _ e)))
      by false e = D.is (ltb-false _ _ e)

made : (c : goal.After-with_sign-num) → c.with_sign-num.result ≡ signed c.args.z (c.size-size.result / c.divisor-g.result)
made c = c.with_sign-num.ensures ∙ ap (λ (z : ℤ). signed z (c.size-size.result / c.divisor-g.result)) (read c.args.z c.ranges.z)

pub returns-then-d-eq0 : goal.returns-then-d-eq0
returns-then-d-eq0 c = sym (reduce-zero _ _ c.if-d-eq0.true)

pub returns-then-d-eq1 : goal.returns-then-d-eq1
returns-then-d-eq1 c = c.whole.ensures ∙ ap (λ (z : ℤ). fitted z 1) (read c.args.z c.ranges.z) ∙ sym (reduce-whole _ _ c.if-d-eq1.true)

pub returns-then-n-gt2147483647 : goal.returns-then-n-gt2147483647
returns-then-n-gt2147483647 c = sym (lowest c.args.z c.args.d c.size-size.result c.divisor-g.result c.ranges.z c.if-d-eq0.false c.size-size.ensures c.divisor-g.ensures ∙ fitted-no-num _ _ (rw nat_abs-signed (omega (arith, c.if-n-gt2147483647.true, less c.args.z c.args.d c.size-size.result c.divisor-g.result c.ranges.z c.if-d-eq0.false c.size-size.ensures c.divisor-g.ensures c.size-size.result))))

pub returns-then-m-gt2147483647 : goal.returns-then-m-gt2147483647
returns-then-m-gt2147483647 c = sym (lowest c.args.z c.args.d c.size-size.result c.divisor-g.result c.ranges.z c.if-d-eq0.false c.size-size.ensures c.divisor-g.ensures ∙ fitted-no-den _ _ (omega (arith, c.if-m-gt2147483647.true, less c.args.z c.args.d c.size-size.result c.divisor-g.result c.ranges.z c.if-d-eq0.false c.size-size.ensures c.divisor-g.ensures c.args.d)))

pub returns : goal.returns
returns c = ap (λ (n : ℤ). Ok (over n (c.args.d / c.divisor-g.result))) (narrow-is c.args.z _ (made c) c.if-n-gt2147483647.false) ∙ sym (answer c.args.z c.args.d c.size-size.result c.divisor-g.result c.ranges.z c.if-d-eq0.false c.size-size.ensures c.divisor-g.ensures c.if-m-gt2147483647.false ∙ fitted-yes _ _ (rw nat_abs-signed c.if-n-gt2147483647.false) c.if-m-gt2147483647.false)
