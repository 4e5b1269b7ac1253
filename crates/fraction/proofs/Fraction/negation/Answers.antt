use Rattle.fraction.proofs.Machine.{minus-fits, minus_is}
use Rattle.fraction.specs.Exact.{negation_of, over}
use Rattle.fraction.proofs.Laws.{operand-is}
use Rattle.std.specs.Prelude.{Ok}
use lib.IntN.{ℤ}
use mathlib.Core.Path.{◌∙◌, ap, sym}
use Rattle.fraction.proofs.Fraction.negation.Goals as goal

pub overflow_sub-result : goal.overflow_sub-result
overflow_sub-result c = let a = c.args in minus-fits (operand-is a.self (sym c.is_operand.ensures ∙ c.if-is_operand.true))

pub returns-then-is_operand : goal.returns-then-is_operand
unfolding negation_of
returns-then-is_operand c = let a = c.args in rw (← c.is_operand.ensures, c.if-is_operand.true) (ap (λ (z : ℤ). Ok (over z a.self.den)) (minus_is (operand-is a.self (sym c.is_operand.ensures ∙ c.if-is_operand.true))))

pub returns : goal.returns
unfolding negation_of
returns c = rw (← c.is_operand.ensures, c.if-is_operand.false)
