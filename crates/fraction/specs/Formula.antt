-- Formulas on what operations answer: × and ÷ before + and -, left to right; a misfit stays one.
use Rattle.std.specs.Prelude.{Bool, is_ok}
use Rattle.std.specs.Result.{result_unwrap_or}
use Rattle.fraction.specs.declared.Fraction.{Fraction}
use Rattle.fraction.specs.Exact.{Worked}
use Rattle.std.specs.Prelude.{Ok, Err}
use Rattle.fraction.specs.Exact.{no_figure, and_then, sum_of, difference_of, product_of, quotient_of, negation_of}

infixl 65 ◌⊕◌ ◌⊖◌
infixl 70 ◌⊗◌ ◌⊘◌
infix 75 ⊝◌
-- an operation on two results: the first misfit stays
abbrev pub worked : (Fraction → Fraction → Worked) → Worked → Worked → Worked
worked op (Ok x) (Ok y) = op x y
worked op (Ok x) (Err e) = Err e
worked op (Err e) w = Err e

unfoldable pub added : Worked → Worked → Worked
added x y = worked sum_of x y

unfoldable pub subtracted : Worked → Worked → Worked
subtracted x y = worked difference_of x y

unfoldable pub multiplied : Worked → Worked → Worked
multiplied x y = worked product_of x y

unfoldable pub divided : Worked → Worked → Worked
divided x y = worked quotient_of x y

unfoldable pub negated : Worked → Worked
negated x = and_then x negation_of

abbrev pub ◌⊕◌ : Worked → Worked → Worked
x ⊕ y = added x y

abbrev pub ◌⊖◌ : Worked → Worked → Worked
x ⊖ y = subtracted x y

abbrev pub ◌⊗◌ : Worked → Worked → Worked
x ⊗ y = multiplied x y

abbrev pub ◌⊘◌ : Worked → Worked → Worked
x ⊘ y = divided x y

abbrev pub ⊝◌ : Worked → Worked
⊝ x = negated x

-- a formula's result: whether it fits, and the figure; none where it doesn't
abbrev pub is_fit : Worked → Bool
is_fit w = is_ok w

abbrev pub figure_of : Worked → Fraction
figure_of w = result_unwrap_or w no_figure
