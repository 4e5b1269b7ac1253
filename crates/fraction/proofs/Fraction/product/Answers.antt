use Rattle.fraction.proofs.Machine.{multiplied}
use Rattle.fraction.specs.Exact.{product_of, reduce_of}
use borrow.Author.Rules.{rules}
use lib.IntN.{ℤ}
use mathlib.Core.Path.{◌∙◌, ap}
use Rattle.fraction.proofs.Fraction.product.Goals as goal

pub returns-then-operands : goal.returns-then-operands
unfolding product_of
returns-then-operands c = let a = c.args in rw (← c.operands.ensures, c.if-operands.true, ← c.denominator.ensures) (c.reduced.ensures ∙ ap (λ (z : ℤ). reduce_of z c.denominator.result) (multiplied a.self.num a.y.num (search rules) (search rules) c.product.ensures c.product.type_inv))

pub returns : goal.returns
unfolding product_of
returns c = rw (← c.operands.ensures, c.if-operands.false)
