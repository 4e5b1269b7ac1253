-- The two parts of the formula: their sizes, and the ratio by its sign.
use Rattle.std.specs.Prelude.{◌≡◌, ℕ, zero, suc, ◌≤◌, ◌<◌, ℤ, pos, negsuc, neg_ℤ, min, nat_abs, ◌-ℤ◌, ◌*ℤ◌}
use Rattle.std.proofs.Common.{refl, sym, ap₂, ◌∙◌, mul-le-mul, mul-le-mul_left, arith}
use Rattle.std.proofs.Math.IntN.{*ℤ_comm}
use Rattle.std.specs.Int.{int_signum}
use mir.Syntax.{w128}
use mir.Val.{SFits}
use Rattle.integer.specs.Whole.{nat_abs-add, nat_abs-neg_ℤ, nat_abs_mul}
use Rattle.integer.specs.Machine.{sfits-by}
use Rattle.algebra.proofs.Solver.{◌:*◌, ◌:-◌, ◌:=◌, ring7}
use Rattle.algebra.proofs.Int.{ℤ-ring}
use Rattle.fraction.specs.declared.Fraction.{Fraction}
use Rattle.fraction.specs.Exact.{Operand, most, reduce_of}
use Rattle.fraction.proofs.Laws.{reduce-zero}
use Rattle.wide.specs.Share.{ratio_of, over_of}

-- m's sign, on top
sign-size : (m : ℤ) → nat_abs (int_signum m) ≤ 1
sign-size (pos k) = omega arith
sign-size (negsuc k) = omega arith

pub sign-fits : (n m : ℤ) → nat_abs n < 170141183460469231731687303715884105728 → SFits w128 (n *ℤ int_signum m)
sign-fits n m h = sfits-by (rw nat_abs_mul (omega (arith, mul-le-mul_left (nat_abs n) (sign-size m))))

pub ratio-is : (n m : ℤ) → reduce_of (n *ℤ int_signum m) (nat_abs m) ≡ ratio_of n m
unfolding ratio_of
ratio-is n (pos zero) = reduce-zero _ 0 refl ∙ sym (reduce-zero _ 0 refl)
ratio-is n (pos (suc k)) = let e : min (suc k) 1 ≡ 1 = omega arith in rw (e, *ℤ_comm n (pos 1))
ratio-is n (negsuc k) = rw (*ℤ_comm n (negsuc 0))

-- products of four parts within range, and their difference
product-size : (x y : ℤ) (d e : ℕ) → nat_abs x ≤ most → nat_abs y ≤ most → d ≤ most → e ≤ most → nat_abs (x *ℤ y *ℤ pos d *ℤ pos e) ≤ 21267647892944572736998860269687930881
product-size x y d e h k l m =
    rw (nat_abs_mul, nat_abs_mul, nat_abs_mul) (mul-le-mul (mul-le-mul (mul-le-mul h k) l) m)

module _ (r a l b : Fraction) (pr : Operand r) (pa : Operand a) (pl : Operand l) (pb : Operand b) (x y : ℤ) (ex : x ≡ r.num *ℤ pos a.den *ℤ pos l.den *ℤ pos b.den) (ey : y ≡ l.num *ℤ a.num *ℤ pos r.den *ℤ pos b.den) where
  left : nat_abs x ≤ 21267647892944572736998860269687930881
  left = rw ex (product-size r.num (pos a.den) l.den b.den pr.num_in pa.den_in pl.den_in pb.den_in)

  right : nat_abs y ≤ 21267647892944572736998860269687930881
  right = rw ey (product-size l.num a.num r.den b.den pl.num_in pa.num_in pr.den_in pb.den_in)

  pub apart-size : nat_abs (x -ℤ y) < 170141183460469231731687303715884105728
  apart-size = omega (arith, nat_abs-add x (neg_ℤ y), nat_abs-neg_ℤ y, left, right)

  pub apart-is : x -ℤ y ≡ over_of r a l *ℤ pos b.den
  apart-is =
      ap₂ ◌-ℤ◌ ex ey
      ∙ ring7 ℤ-ring r.num (pos r.den) a.num (pos a.den) l.num (pos l.den) (pos b.den) (λ n d p e q f h. n :* e :* f :* h :- q :* p :* d :* h := (n :* e :* f :- q :* p :* d) :* h) refl
