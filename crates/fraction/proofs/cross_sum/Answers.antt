-- The sum of two products of words fits 64 bits.
use Rattle.fraction.proofs.Machine.{cross-sum-fits, cross-sum-is}
use borrow.Author.Rules.{rules}
use Rattle.fraction.proofs.cross_sum.Goals as goal

pub overflow_add-result : goal.overflow_add-result
overflow_add-result c = cross-sum-fits c.requires.0 c.requires.1 c.cross.ensures c.cross-2.ensures (search rules) (search rules)

pub returns : goal.returns
returns c = cross-sum-is c.requires.0 c.requires.1 c.cross.ensures c.cross-2.ensures (search rules) (search rules)
