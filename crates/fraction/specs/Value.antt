-- The value of a fraction in ℚ, and what is asked of an operation.
use Rattle.std.specs.Prelude.{◌≡◌}
use Rattle.algebra.specs.Rat.{ℚ}
use Rattle.algebra.specs.Frac.{frac}
use Rattle.fraction.specs.declared.Fraction.{Fraction}
use Rattle.fraction.specs.Exact.{Worked}
use Rattle.std.specs.Prelude.{Ok}
use Rattle.fraction.specs.Exact.{Proper}

unfoldable pub value : Fraction → ℚ
value x = frac x.num x.den

-- w is the fraction in form whose value is q, or a misfit where there is none (proofs `Value`: each of the four operations works)
pub record Works (w : Worked) (q : ℚ) : Type 0 where
  pub exact : (z : Fraction) → w ≡ Ok z → value z ≡ q
  pub proper : (z : Fraction) → w ≡ Ok z → Proper z
  pub complete : (z : Fraction) → Proper z → value z ≡ q → w ≡ Ok z
