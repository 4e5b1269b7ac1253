-- Whole numbers: what is over 1 has no common divisor, and fits by the size of its numerator.
use mathlib.Core.Path.{◌≡◌, refl, sym, ap, ◌∙◌}
use mathlib.Core.Bool.{Bool, true, false, ◌&&◌}
use Prim.Native.Nat.{ℕ, ◌≤◌, ◌<◌}
use native.Mathlib.Nat.{div-one}
use native.Mathlib.Omega.{arith}
use borrow.Author.Tests.{ltb-true, ltb-false, le-leb}
use lib.Dec.{leb}
use lib.IntN.{ℤ, pos, negsuc, nat_abs}
use lib.Signed.{mag, lt_z}
use mir.Syntax.{w32, w64}
use mir.Val.{SFits, to_z, of_z}
use mir.Facts.{to_z-of_z}
use Rattle.integer.specs.Gcd.{gcd, gcd-pos, gcd-le}
use Rattle.integer.specs.Whole.{signed}
use Rattle.integer.specs.Machine.{back32, sfits-by}
use Rattle.fraction.specs.declared.Fraction.{Fraction}
use Rattle.std.specs.Prelude.{Ok, Err}
use Rattle.fraction.specs.Exact.{over, is_operand, is_proper, fitted, reduce_of, misfit}
use Rattle.fraction.proofs.Laws.{never, fitted-yes, fitted-no-num, reduce-by}

gcd-one : (a : ℕ) → gcd a 1 ≡ 1
gcd-one a = omega (arith, gcd-pos a 1 (omega arith), gcd-le a 1 (omega arith))

pub reduce-whole : (z : ℤ) (d : ℕ) → d ≡ 1 → reduce_of z d ≡ fitted z 1
reduce-whole z d e =
    rw e (reduce-by z 1 (nat_abs z) 1 (λ h. omega arith) refl (sym (gcd-one (nat_abs z))) ∙ ap (λ (n : ℤ). fitted n 1) (ap (signed z) (div-one (nat_abs z)) ∙ same z))
  where
    same : (z : ℤ) → signed z (nat_abs z) ≡ z
    same (pos n) = refl
    same (negsuc n) = refl

-- the only word out of range
pub proper-whole : (x : Fraction) → mag x.num < 2147483648 → x.den ≡ 1 → lt_z (negsuc 2147483647) (to_z w32 (of_z w32 x.num)) ≡ is_proper x
unfolding is_proper is_operand
proper-whole x h e = rw (back32 x.num h, e, gcd-one (nat_abs x.num)) (by x.num h)
  where
    both : (t : Bool) → t ≡ ((t && true) && true)
    both true = refl
    both false = refl

    by : (z : ℤ) → mag z < 2147483648 → lt_z (negsuc 2147483647) z ≡ ((leb (nat_abs z) 2147483647 && true) && true)
    by (pos n) h = rw (le-leb n 2147483647 (omega arith))
    by (negsuc n) h = both (leb (nat_abs (negsuc n)) 2147483647)

-- a number of 64 bits, by the tests of its two limits
module _ (z : ℤ) (h : SFits w64 z) where
  pub too-low : lt_z (to_z w64 (of_z w64 z)) (negsuc 2147483646) ≡ true → (Err misfit) ≡ fitted z 1
  too-low e = sym (fitted-no-num z 1 (by z (rw (to_z-of_z h) at e)))
    where
      by : (z : ℤ) → lt_z z (negsuc 2147483646) ≡ true → 2147483647 < nat_abs z
      by (pos n) e = never cc
      by (negsuc n) e = omega (arith, ltb-true 2147483646 n e)

  pub too-high : lt_z (pos 2147483647) (to_z w64 (of_z w64 z)) ≡ true → (Err misfit) ≡ fitted z 1
  too-high e = sym (fitted-no-num z 1 (by z (rw (to_z-of_z h) at e)))
    where
      by : (z : ℤ) → lt_z (pos 2147483647) z ≡ true → 2147483647 < nat_abs z
      by (pos n) e = ltb-true 2147483647 n e
      by (negsuc n) e = never cc

  module _ (e : lt_z (to_z w64 (of_z w64 z)) (negsuc 2147483646) ≡ false) (f : lt_z (pos 2147483647) (to_z w64 (of_z w64 z)) ≡ false) where
    within : nat_abs z ≤ 2147483647
    within = by z (rw (to_z-of_z h) at e) (rw (to_z-of_z h) at f)
      where
        by : (z : ℤ) → lt_z z (negsuc 2147483646) ≡ false → lt_z (pos 2147483647) z ≡ false → nat_abs z ≤ 2147483647
        by (pos n) e f = ltb-false 2147483647 n f
        by (negsuc n) e f = omega (arith, ltb-false 2147483646 n e)

    pub narrow : SFits w32 (to_z w64 (of_z w64 z))
    narrow = rw (to_z-of_z h) (sfits-by (omega (arith, within)))

    pub fits_whole : Ok (over (to_z w32 (of_z w32 (to_z w64 (of_z w64 z)))) 1) ≡ fitted z 1
    fits_whole = ap (λ (n : ℤ). Ok (over n 1)) (to_z-of_z narrow ∙ to_z-of_z h) ∙ sym (fitted-yes z 1 within (omega arith))
