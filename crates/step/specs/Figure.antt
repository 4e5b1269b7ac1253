-- Figures that the rules choose between.
use Rattle.std.specs.Prelude.{cond}
use Rattle.fraction.specs.declared.Fraction.{Fraction}
use Rattle.fraction.specs.Exact.{Worked}
use Rattle.std.specs.Prelude.{Ok, Err}
use Rattle.fraction.specs.Exact.{is_less}

infixl 60 ◌<$>◌
-- the larger and the smaller of two
abbrev pub larger : Fraction → Fraction → Fraction
larger x y = cond (is_less x y) y x

abbrev pub smaller : Fraction → Fraction → Fraction
smaller x y = cond (is_less y x) y x

-- f of a figure that fits
abbrev pub ◌<$>◌ : (Fraction → Fraction) → Worked → Worked
f <$> Ok x = Ok (f x)
f <$> Err m = Err m
