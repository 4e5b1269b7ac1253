use Rattle.fraction.proofs.OverOne.{proper-whole}
use Rattle.fraction.specs.Exact.{is_proper}
use borrow.Author.Rules.{rules}
use Rattle.fraction.proofs.Fraction.is_proper.Goals as goal

pub returns-then-self-eq1 : goal.returns-then-self-eq1
returns-then-self-eq1 c = proper-whole _ (search rules) c.if-self-eq1.true

pub returns-then-is_operand : goal.returns-then-is_operand
unfolding is_proper
returns-then-is_operand c = rw (← c.is_operand.ensures, c.if-is_operand.true, ← c.num_size.ensures, ← c.gcd.ensures)

pub returns : goal.returns
unfolding is_proper
returns c = rw (← c.is_operand.ensures, c.if-is_operand.false)
