-- The formula step by step.
use Rattle.fraction.specs.declared.Fraction.{Fraction}
use Rattle.fraction.specs.Exact.{Worked}
use Rattle.std.specs.Prelude.{Ok}
use Rattle.fraction.specs.Formula.{◌⊖◌, ◌⊗◌, ◌⊘◌}

-- each step must fit
abbrev pub steps_of : Fraction → Fraction → Fraction → Fraction → Worked
steps_of r a l b = (Ok r ⊖ Ok a ⊗ Ok l) ⊘ (Ok a ⊗ Ok b)
