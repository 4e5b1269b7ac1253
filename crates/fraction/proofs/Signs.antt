-- A word that was read, as a number.
use mathlib.Core.Path.{◌≡◌, refl}
use mathlib.Core.Bool.{true, false}
use Prim.Native.Nat.{◌<◌}
use native.Mathlib.Nat.{not-suc-le-zero, lt_trans}
use lib.Dec.{T, lit<}
use lib.IntN.{ℤ, pos, negsuc, nat_abs}
use lib.Signed.{lt_z, non_neg, mag}
use mir.Syntax.{w32, w64}
use mir.Val.{Fits, to_z, of_z}
use borrow.Author.Tests.{ltb-true}
use Rattle.integer.specs.Machine.{back32}
use Rattle.fraction.proofs.Laws.{never}
use Rattle.fraction.specs.Words.{natural_of}

-- ---- a word that was read, with its sign

module _ (z : ℤ) (h : mag z < 2147483648) where
  pub negative : lt_z (to_z w32 (of_z w32 z)) (pos 0) ≡ true → lt_z z (pos 0) ≡ true
  negative e = rw (back32 z h) at e

  pub positive : lt_z (to_z w32 (of_z w32 z)) (pos 0) ≡ false → lt_z z (pos 0) ≡ false
  positive e = rw (back32 z h) at e

  pub cast_ok : lt_z (to_z w32 (of_z w32 z)) (pos 0) ≡ false → T (non_neg (to_z w32 (of_z w32 z))) × Fits w64 (nat_abs (to_z w32 (of_z w32 z)))
  cast_ok e = rw (back32 z h) (by z h (positive e))
    where
      by : (z : ℤ) → mag z < 2147483648 → lt_z z (pos 0) ≡ false → T (non_neg z) × Fits w64 (nat_abs z)
      by (pos n) h e = (tt, record { fits = lt_trans h (lit< tt) })
      by (negsuc n) h e = never cc

  pub end-neg : lt_z (to_z w32 (of_z w32 z)) (pos 0) ≡ true → 0 ≡ natural_of z
  end-neg e = by z (negative e)
    where
      by : (z : ℤ) → lt_z z (pos 0) ≡ true → 0 ≡ natural_of z
      by (pos n) e = absurd (not-suc-le-zero (ltb-true n 0 e))
      by (negsuc n) e = refl

  pub end-pos : lt_z (to_z w32 (of_z w32 z)) (pos 0) ≡ false → nat_abs (to_z w32 (of_z w32 z)) ≡ natural_of z
  end-pos e = rw (back32 z h) (by z (positive e))
    where
      by : (z : ℤ) → lt_z z (pos 0) ≡ false → nat_abs z ≡ natural_of z
      by (pos n) e = refl
      by (negsuc n) e = never cc
