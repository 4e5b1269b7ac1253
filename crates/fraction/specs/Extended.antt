-- The one order of fractions and both marks: an absent lower bound lies below everything, an absent upper bound above everything (proofs `Extended`: `is_less` is this order).
use Rattle.std.specs.Prelude.{ℕ, suc, ℤ}
use Rattle.algebra.specs.Rat.{ℚ, ◌<ℚ◌}
use Rattle.fraction.specs.declared.Fraction.{Fraction}
use Rattle.fraction.specs.Exact.{over, no_lower, no_upper}
use Rattle.fraction.specs.Value.{value}

-- the numbers, with one end below all of them and one above
pub data Extended : Type 0 where
  least : Extended
  number : ℚ → Extended
  greatest : Extended

abbrev pub Below : Extended → Extended → Type 0
Below least least = ⊥
Below least (number q) = Unit
Below least greatest = Unit
Below (number p) least = ⊥
Below (number p) (number q) = p <ℚ q
Below (number p) greatest = Unit
Below greatest y = ⊥

-- a figure of a network: a number over a number above 0, or a mark, and where it stands
pub data Figure : Fraction → Extended → Type 0 where
  fraction : (n : ℤ) (d : ℕ) → Figure (over n (suc d)) (number (value (over n (suc d))))
  absent-lower : Figure no_lower least
  absent-upper : Figure no_upper greatest
