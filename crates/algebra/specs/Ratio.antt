-- Fractions of whole numbers with positive denominators, when two of them are one number, and the operations on them.
use Rattle.std.specs.Prelude.{◌≡◌, ℕ, zero, suc, ◌*◌, ◌<◌, ℤ, pos, negsuc, neg_ℤ, ◌+ℤ◌, ◌*ℤ◌}
use Rattle.std.proofs.Common.{mul-pos, arith}

pub record Frac : Type 0 where
  pub num : ℤ
  pub den : ℕ
  pub den_pos : 0 < den

abbrev pub over : (n : ℤ) (d : ℕ) → 0 < d → Frac
over n d h = record { num = n; den = d; den_pos = h }

-- two fractions are one number
abbrev pub rel : Frac → Frac → Type 0
rel x y = x.num *ℤ pos y.den ≡ y.num *ℤ pos x.den

abbrev pub add_f : Frac → Frac → Frac
add_f x y = over (x.num *ℤ pos y.den +ℤ y.num *ℤ pos x.den) (x.den * y.den) (mul-pos x.den_pos y.den_pos)

abbrev pub mul_f : Frac → Frac → Frac
mul_f x y = over (x.num *ℤ y.num) (x.den * y.den) (mul-pos x.den_pos y.den_pos)

abbrev pub neg_f : Frac → Frac
neg_f x = over (neg_ℤ x.num) x.den x.den_pos

-- a whole number over 1
abbrev pub int_f : ℤ → Frac
int_f n = over n 1 (omega arith)

-- d / n, and 0 for n = 0
abbrev pub inv_n : ℤ → ℕ → Frac
inv_n (pos zero) d = int_f (pos 0)
inv_n (pos (suc n)) d = over (pos d) (suc n) (omega arith)
inv_n (negsuc n) d = over (neg_ℤ (pos d)) (suc n) (omega arith)

abbrev pub inv_f : Frac → Frac
inv_f x = inv_n x.num x.den
