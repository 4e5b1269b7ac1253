-- `records::values::write` meets its contract.
use lib.Seq.{set_out}
use mathlib.Core.Path.{sym}
use native.Mathlib.Omega.{arith}
use Rattle.integer.specs.Machine.{back32}
use Rattle.records.specs.Values.{with_value}
use borrow.Author.Rules.{rules}
use Rattle.records.proofs.values.write.Goals as goal

pub returns-then-at-values : goal.returns-then-at-values
unfolding with_value
returns-then-at-values c = rw (c.put-then-at-values.ensures, back32 c.den_word.result (search rules), c.den_word.ensures, c.put.ensures, back32 c.args.f.num (search rules))

pub returns-else-at-values : goal.returns-else-at-values
unfolding with_value
returns-else-at-values c = sym (rw (set_out c.args.values.now c.args.at _ (omega arith)) (set_out c.args.values.now _ _ (omega arith)))
