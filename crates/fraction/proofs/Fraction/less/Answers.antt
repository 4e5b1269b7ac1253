use Rattle.fraction.specs.Exact.{is_less}
use Rattle.integer.specs.Machine.{back32}
use borrow.Author.Rules.{rules}
use borrow.Author.Tests.{eq-eqb, ne_eqb}
use Rattle.fraction.proofs.Fraction.less.Goals as goal

pub returns-then-y-eq0 : goal.returns-then-y-eq0
unfolding is_less
returns-then-y-eq0 c = let a = c.args in rw (eq-eqb _ _ c.if-self-eq0.true, eq-eqb _ _ c.if-y-eq0.true, back32 a.self.num (search rules), back32 a.y.num (search rules))

pub returns-then-self-eq0 : goal.returns-then-self-eq0
unfolding is_less
returns-then-self-eq0 c = rw (eq-eqb _ _ c.if-self-eq0.true, ne_eqb _ _ c.if-y-eq0.false) c.cross_less.ensures

pub returns : goal.returns
unfolding is_less
returns c = rw (ne_eqb _ _ c.if-self-eq0.false) c.cross_less-2.ensures
