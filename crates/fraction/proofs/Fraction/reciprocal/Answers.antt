use Rattle.fraction.proofs.Machine.{narrow-fits, narrow-is}
use Rattle.fraction.specs.Exact.{Operand, over, reciprocal_of}
use Rattle.fraction.proofs.Laws.{operand-is}
use Rattle.std.specs.Prelude.{Ok}
use Rattle.integer.specs.Machine.{wide}
use Rattle.integer.specs.Whole.{signed}
use borrow.Author.Rules.{rules}
use borrow.Author.Tests.{eq-eqb, ne_eqb}
use lib.IntN.{ℤ}
use mathlib.Core.Path.{◌∙◌, ◌≡◌, ap, sym}
use Rattle.fraction.proofs.Fraction.reciprocal.Goals as goal

operand : (c : goal.After-with_sign-num) → Operand c.args.self
operand c = operand-is _ (sym c.is_operand.ensures ∙ c.if-is_operand.true)

made : (c : goal.After-with_sign-num) → c.with_sign-num.result ≡ signed c.args.self.num c.args.self.den
made c = c.with_sign-num.ensures ∙ ap (λ (z : ℤ). signed z c.args.self.den) (wide c.args.self.num (search rules))

pub returns-then-size-eq0 : goal.returns-then-size-eq0
unfolding reciprocal_of
returns-then-size-eq0 c = rw (← c.is_operand.ensures, c.if-is_operand.true, ← c.num_size-size.ensures, eq-eqb _ _ c.if-size-eq0.true)

pub overflow_cast-result : goal.overflow_cast-result
overflow_cast-result c = narrow-fits c.args.self.num _ (made c) (operand c).den_in

pub returns-then-is_operand : goal.returns-then-is_operand
unfolding reciprocal_of
returns-then-is_operand c = let a = c.args in rw (← c.is_operand.ensures, c.if-is_operand.true, ← c.num_size-size.ensures, ne_eqb _ _ c.if-size-eq0.false) (ap (λ (n : ℤ). Ok (over n c.num_size-size.result)) (narrow-is a.self.num _ (made c) (operand c).den_in))

pub returns : goal.returns
unfolding reciprocal_of
returns c = rw (← c.is_operand.ensures, c.if-is_operand.false)
