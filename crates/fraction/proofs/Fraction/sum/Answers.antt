use Rattle.fraction.specs.Exact.{reduce_of, sum_of}
use Rattle.fraction.proofs.Laws.{operands-are}
use Rattle.integer.specs.Machine.{back64}
use lib.IntN.{ℤ}
use mathlib.Core.Path.{◌∙◌, ap, sym}
use Rattle.fraction.proofs.Fraction.sum.Goals as goal

pub cross_sum-requires : goal.cross_sum-requires
cross_sum-requires c = operands-are _ _ (sym c.operands.ensures ∙ c.if-operands.true)

pub returns-then-operands : goal.returns-then-operands
unfolding sum_of
returns-then-operands c = rw (← c.operands.ensures, c.if-operands.true, ← c.cross_sum.ensures, ← c.denominator.ensures) (c.reduced.ensures ∙ ap (λ (z : ℤ). reduce_of z c.denominator.result) (back64 c.cross_sum.result c.cross_sum.type_inv))

pub returns : goal.returns
unfolding sum_of
returns c = rw (← c.operands.ensures, c.if-operands.false)
