-- Laws of the signs of words.
use mathlib.Core.Path.{◌≡◌}
use mathlib.Core.Bool.{true, false}
use Prim.Native.Nat.{ℕ, zero, suc, ◌≤◌}
use native.Mathlib.Nat.{not-suc-le-zero, lt_trans}
use native.Mathlib.Numerals.{add-one}
use native.Mathlib.Omega.{arith}
use lib.Dec.{T, lit<}
use lib.IntN.{ℤ, pos, negsuc, neg_ℤ, nat_abs, ◌-ℤ◌, +ℤ_idl}
use lib.Signed.{lt_z, non_neg}
use borrow.Author.Tests.{ltb-true}
use mir.Syntax.{w32, w64}
use mir.Val.{Fits, SFits}

pub minus_is : (z : ℤ) → pos 0 -ℤ z ≡ neg_ℤ z
minus_is z = +ℤ_idl (neg_ℤ z)

-- a word is a number of 64 bits too, and so is its negation
pub wide : {z : ℤ} → SFits w32 z → SFits w64 z
wide h = record { sfits = lt_trans h.sfits (lit< tt) }

pub wide-negated : (z : ℤ) → SFits w32 z → SFits w64 (neg_ℤ z)
wide-negated (pos zero) h = record { sfits = omega arith }
wide-negated (pos (suc n)) h = record { sfits = omega (arith, h.sfits, add-one n) }
wide-negated (negsuc n) h = record { sfits = omega (arith, h.sfits, add-one n) }

pub nat_abs-fits : (z : ℤ) → SFits w32 z → Fits w64 (nat_abs z)
nat_abs-fits (pos n) h = record { fits = omega (arith, h.sfits) }
nat_abs-fits (negsuc n) h = record { fits = omega (arith, h.sfits, add-one n) }

pub negative-negated : (z : ℤ) → lt_z z (pos 0) ≡ true → T (non_neg (neg_ℤ z))
negative-negated (pos n) t = absurd (not-suc-le-zero (ltb-true n 0 t))
negative-negated (negsuc n) t = tt

pub not_negative : (z : ℤ) → lt_z z (pos 0) ≡ false → T (non_neg z)
not_negative (pos n) t = tt
not_negative (negsuc n) t = cc

-- a value of at most 2147483648, negated, is a word
pub negated_fits : (v : ℕ) → v ≤ 2147483648 → SFits w32 (neg_ℤ (pos v))
negated_fits zero h = record { sfits = omega arith }
negated_fits (suc n) h = record { sfits = omega (arith, h, add-one n) }
