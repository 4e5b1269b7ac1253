-- What can be told of two arcs without a division: it holds where one is a multiple of the other.
use Rattle.std.specs.Prelude.{Ok, Err}
use Rattle.std.specs.Prelude.{Bool, true, false, ◌&&◌, pos, ◌*ℤ◌}
use Rattle.integer.specs.Whole.{eq_z}
use Rattle.fraction.specs.declared.Fraction.{Fraction}
use Rattle.network.specs.declared.Arc.{Arc}
use Rattle.step.specs.Outcome.{Outcome}
use Rattle.step.specs.declared.Halt.TheVariants.{Passes, NoFlow}

-- whether a rule passes
abbrev pub is_passing : Outcome → Bool
is_passing (Err Passes) = true
is_passing (Err NoFlow) = false
is_passing (Ok c) = false

-- y ÷ b is x ÷ a: crosswise, x × b and y × a are the same
unfoldable pub is_cross : Fraction → Fraction → Fraction → Fraction → Bool
is_cross x a y b = eq_z (x.num *ℤ b.num *ℤ pos y.den *ℤ pos a.den) (y.num *ℤ a.num *ℤ pos x.den *ℤ pos b.den)

-- b and c of tk are as many times those of tj as its a is
unfoldable pub is_multiple : Arc → Arc → Bool
is_multiple tj tk = is_cross tj.cost tj.a tk.cost tk.a && is_cross tj.b tj.a tk.b tk.a
