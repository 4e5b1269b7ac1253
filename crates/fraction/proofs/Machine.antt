-- What the machine makes of the parts of fractions.
use mathlib.Core.Path.{◌≡◌, refl, ap, ◌∙◌}
use mathlib.Core.Bool.{true, false}
use Prim.Native.Nat.{ℕ, ◌*◌, ◌≤◌, ◌<◌}
use native.Mathlib.Nat.{mul-le-mul}
use native.Mathlib.Omega.{arith}
use borrow.Author.Tests.{ltb-true}
use lib.Dec.{T}
use lib.IntN.{ℤ, pos, negsuc, neg_ℤ, nat_abs, ◌+ℤ◌, ◌-ℤ◌, ◌*ℤ◌, +ℤ_idl}
use lib.Signed.{mag, lt_z, non_neg, nat_abs-le}
use mir.Syntax.{w32, w64}
use mir.Val.{Fits, SFits, to_z, of_z}
use mir.Facts.{to_z-of_z}
use Rattle.integer.specs.Whole.{nat_abs_mul, nat_abs-add, nat_abs-neg_ℤ, nat_abs-signed, signed, size-pos}
use Rattle.integer.specs.Machine.{back32, back64, sfits-by}
use Rattle.fraction.specs.declared.Fraction.{Fraction}
use Rattle.fraction.specs.Exact.{Operand, over, den_of, from_words}

-- two denominators' product fits
pub product-below : (a b : ℕ) → a < 4294967296 → b < 4294967296 → Fits w64 (a * b)
product-below a b h k =
    let m : a ≤ 4294967295 = omega arith in
    let n : b ≤ 4294967295 = omega arith in
    record { fits = omega (arith, mul-le-mul m n) }

-- a product of two words, as the code has it
pub multiplied : (a b : ℤ) {p : ℤ} → mag a < 2147483648 → mag b < 2147483648 → p ≡ to_z w32 (of_z w32 a) *ℤ to_z w32 (of_z w32 b) → mag p < 9223372036854775808 → to_z w64 (of_z w64 p) ≡ a *ℤ b
multiplied a b {p} h k e ok = back64 p ok ∙ e ∙ rw (back32 a h, back32 b k)

-- a numerator times a denominator, of operands
small : {x y : Fraction} → Operand x → Operand y → nat_abs (x.num *ℤ pos y.den) ≤ 4611686014132420609
small p q = rw nat_abs_mul (mul-le-mul p.num_in q.den_in)

back : (z : ℤ) → nat_abs z ≤ 4611686014132420609 → to_z w64 (of_z w64 z) ≡ z
back z h = to_z-of_z {w = w64} (sfits-by (omega arith))

-- 0 less a numerator
read-num : {x : Fraction} → Operand x → to_z w32 (of_z w32 x.num) ≡ x.num
read-num p = to_z-of_z {w = w32} (sfits-by (omega (arith, p.num_in)))

negated_fits : {x : Fraction} → Operand x → SFits w32 (neg_ℤ x.num)
negated_fits {x} p = sfits-by (rw nat_abs-neg_ℤ (omega (arith, p.num_in)))

pub minus-fits : {x : Fraction} → Operand x → SFits w32 (pos 0 -ℤ to_z w32 (of_z w32 x.num))
minus-fits p = rw (read-num p, +ℤ_idl) (negated_fits p)

pub minus_is : {x : Fraction} → Operand x → to_z w32 (of_z w32 (pos 0 -ℤ to_z w32 (of_z w32 x.num))) ≡ neg_ℤ x.num
minus_is p = rw (read-num p, +ℤ_idl) (to_z-of_z (negated_fits p))

-- a size with a sign, made a word
module _ (z : ℤ) (q : ℕ) {r : ℤ} (e : r ≡ signed z q) (h : q ≤ 2147483647) where
  signed-fits : SFits w32 (signed z q)
  signed-fits = sfits-by (rw nat_abs-signed (omega arith))

  wide_back : to_z w64 (of_z w64 r) ≡ signed z q
  wide_back = rw e (back (signed z q) (rw nat_abs-signed (omega arith)))

  pub narrow-fits : SFits w32 (to_z w64 (of_z w64 r))
  narrow-fits = rw wide_back signed-fits

  pub narrow-is : to_z w32 (of_z w32 (to_z w64 (of_z w64 r))) ≡ signed z q
  narrow-is = rw wide_back (to_z-of_z signed-fits)

module _ {x y : Fraction} (p : Operand x) (q : Operand y) {a b : ℤ} (f : a ≡ to_z w32 (of_z w32 x.num) *ℤ pos y.den) (g : b ≡ to_z w32 (of_z w32 y.num) *ℤ pos x.den) (h : mag x.num < 2147483648) (k : mag y.num < 2147483648) where
  first : a ≡ x.num *ℤ pos y.den
  first = f ∙ rw (back32 x.num h)

  second : b ≡ y.num *ℤ pos x.den
  second = g ∙ rw (back32 y.num k)

  sum_fits : SFits w64 (x.num *ℤ pos y.den +ℤ y.num *ℤ pos x.den)
  sum_fits = sfits-by (omega (arith, nat_abs-add (x.num *ℤ pos y.den) (y.num *ℤ pos x.den), small p q, small q p))

  read : to_z w64 (of_z w64 a) +ℤ to_z w64 (of_z w64 b) ≡ x.num *ℤ pos y.den +ℤ y.num *ℤ pos x.den
  read = rw (first, second, back (x.num *ℤ pos y.den) (small p q), back (y.num *ℤ pos x.den) (small q p))

  -- the sum of the two cross products
  pub cross-sum-fits : SFits w64 (to_z w64 (of_z w64 a) +ℤ to_z w64 (of_z w64 b))
  cross-sum-fits = rw read sum_fits

  pub cross-sum-is : to_z w64 (of_z w64 (to_z w64 (of_z w64 a) +ℤ to_z w64 (of_z w64 b))) ≡ x.num *ℤ pos y.den +ℤ y.num *ℤ pos x.den
  cross-sum-is = rw read (to_z-of_z sum_fits)

-- a word that is not below 0, as an unsigned number
pub unsigned-ok : (z : ℤ) → mag z < 2147483648 → lt_z (to_z w32 (of_z w32 z)) (pos 0) ≡ false → T (non_neg (to_z w32 (of_z w32 z))) × Fits w32 (nat_abs (to_z w32 (of_z w32 z)))
unsigned-ok z h e =
    let k : z ≡ pos (nat_abs z) = size-pos z (rw (back32 z h) at e) in
    rw (back32 z h, k) (tt, record { fits = omega (arith, nat_abs-le z h) })

pub from-negative : (n z : ℤ) → mag n < 2147483648 → mag z < 2147483648 → lt_z (to_z w32 (of_z w32 z)) (pos 0) ≡ true → over (to_z w32 (of_z w32 n)) 4294967295 ≡ from_words n z
unfolding from_words
from-negative n z g h e = rw (back32 n g) (ap (over n) (negative z (rw (back32 z h) at e)))
  where
    negative : (z : ℤ) → lt_z z (pos 0) ≡ true → 4294967295 ≡ den_of z
    negative (pos d) e = absurd (below (ltb-true d 0 e))
      where
        below : d < 0 → ⊥
        below h = omega arith
    negative (negsuc d) e = refl

pub from-unsigned : (n z : ℤ) → mag n < 2147483648 → mag z < 2147483648 → lt_z (to_z w32 (of_z w32 z)) (pos 0) ≡ false → over (to_z w32 (of_z w32 n)) (nat_abs (to_z w32 (of_z w32 z))) ≡ from_words n z
unfolding from_words
from-unsigned n z g h e = rw (back32 n g, back32 z h) (ap (over n) (same z (rw (back32 z h) at e)))
  where
    same : (z : ℤ) → lt_z z (pos 0) ≡ false → nat_abs z ≡ den_of z
    same (pos d) e = refl
    same (negsuc d) e = absurd (let b : ◌≡◌ {A = ℕ} 0 1 = cc in omega arith)
