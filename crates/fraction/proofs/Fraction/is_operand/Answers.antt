use Rattle.fraction.specs.Exact.{is_operand}
use borrow.Author.Tests.{le-leb, le-ltb, lt-leb, lt-ltb}
use native.Mathlib.Omega.{arith}
use Rattle.fraction.proofs.Fraction.is_operand.Goals as goal

pub returns-then-num_size-gt2147483647 : goal.returns-then-num_size-gt2147483647
unfolding is_operand
returns-then-num_size-gt2147483647 c = rw (← c.num_size.ensures, lt-leb _ _ c.if-num_size-gt2147483647.true)

pub returns-then-self-eq0 : goal.returns-then-self-eq0
unfolding is_operand
returns-then-self-eq0 c = rw (← c.num_size.ensures, le-leb _ _ c.if-num_size-gt2147483647.false, le-ltb 0 c.args.self.den (omega arith))

pub returns : goal.returns
unfolding is_operand
returns c = rw (← c.num_size.ensures, le-leb _ _ c.if-num_size-gt2147483647.false, lt-ltb 0 c.args.self.den (omega arith))
