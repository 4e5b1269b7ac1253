-- The formula (r - a × l) ÷ (a × b): "of these only the results must fit" (02, 2026-03).
use Rattle.std.specs.Prelude.{cond, ◌&&◌, ℤ, pos, nat_abs, ◌-ℤ◌, ◌*ℤ◌}
use Rattle.integer.specs.Whole.{signed}
use Rattle.fraction.specs.declared.Fraction.{Fraction}
use Rattle.fraction.specs.Exact.{Worked, misfit}
use Rattle.std.specs.Prelude.{Err}
use Rattle.fraction.specs.Exact.{is_operand, reduce_of}

-- n over m, fully reduced, the sign on top; there is no fraction over 0
unfoldable pub ratio_of : ℤ → ℤ → Worked
ratio_of n m = reduce_of (signed m 1 *ℤ n) (nat_abs m)

-- in full: r - a × l is the first over the denominators of r, a and l, and a × b the second over those of r, a, l and b
abbrev pub over_of : Fraction → Fraction → Fraction → ℤ
over_of r a l = r.num *ℤ pos a.den *ℤ pos l.den -ℤ l.num *ℤ a.num *ℤ pos r.den

abbrev pub under_of : Fraction → Fraction → Fraction → Fraction → ℤ
under_of r a l b = a.num *ℤ b.num *ℤ pos r.den *ℤ pos l.den

-- so the share is the first times the denominator of b, over the second
unfoldable pub share_of : Fraction → Fraction → Fraction → Fraction → Worked
share_of r a l b = cond ((is_operand r && is_operand a) && (is_operand l && is_operand b)) (ratio_of (over_of r a l *ℤ pos b.den) (under_of r a l b)) (Err misfit)
