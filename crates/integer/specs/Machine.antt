-- A signed value goes through its bits at each use, `to_z w (of_z w z)`: what the machine reads back of numbers that fit.
use Rattle.std.specs.Prelude.{◌≡◌, ℕ, ◌≤◌, ◌<◌, ◌^◌, ℤ, pos, negsuc, nat_abs, ◌*ℤ◌}
use Rattle.std.proofs.Common.{mul-le-mul, lt_of_le_of_lt, le_refl, arith, to_z-of_z}
use Rattle.std.proofs.Math.Nat.{le-suc}
use borrow.Author.Rules.{sfits_of}
use Rattle.std.specs.Int.Signed.{mag, nat_abs-le}
use Rattle.std.specs.Int.{Width, w32, w64}
use mir.Val.{SFits, to_z, of_z, hbits}
use Rattle.std.proofs.Math.Facts.{to_z_pos}
use Rattle.integer.specs.Whole.{nat_abs_mul}

mag-le : (z : ℤ) → mag z ≤ nat_abs z
mag-le (pos n) = le_refl n
mag-le (negsuc n) = le-suc n

-- a number whose size is below half the width's power fits the width
pub sfits-by : {w : Width} {z : ℤ} → nat_abs z < 2 ^ hbits w → SFits w z
sfits-by {w} {z} h = record { sfits = lt_of_le_of_lt (mag-le z) h }

-- ---- words of 32 bits, at their whole range

pub back32 : (z : ℤ) → mag z < 2147483648 → to_z w32 (of_z w32 z) ≡ z
back32 z h = to_z-of_z {w = w32} (record { sfits = h })

-- a result of 64 bits, by its `.ok`
pub back64 : (z : ℤ) → mag z < 9223372036854775808 → to_z w64 (of_z w64 z) ≡ z
back64 z h = to_z-of_z {w = w64} (sfits_of h)

pub widened : (z : ℤ) → mag z < 2147483648 → SFits w64 (to_z w32 (of_z w32 z))
widened z h = rw (back32 z h) (sfits-by (omega (arith, nat_abs-le z h)))

pub wide : (z : ℤ) → mag z < 2147483648 → to_z w64 (of_z w64 (to_z w32 (of_z w32 z))) ≡ z
wide z h = rw (back32 z h) (to_z-of_z {w = w64} (sfits-by (omega (arith, nat_abs-le z h))))

pub unsigned : (d : ℕ) → d < 4294967296 → to_z w64 d ≡ pos d
unsigned d h = to_z_pos w64 (omega arith)

-- a product of words fits 64 bits
pub product-fits : (y z : ℤ) → nat_abs y ≤ 2147483648 → nat_abs z ≤ 4294967295 → SFits w64 (y *ℤ z)
product-fits y z h k = sfits-by (rw nat_abs_mul (omega (arith, mul-le-mul h k)))
