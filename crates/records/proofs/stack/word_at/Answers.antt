-- `records::word_at` meets its contract.
use Rattle.records.specs.Logged.{stack_word}
use Rattle.integer.specs.Machine.{back32}
use borrow.Author.Rules.{rules}
use borrow.Author.Tests.{eq-eqb, ne_eqb, le-leb, lt-leb}
use Rattle.records.proofs.stack.word_at.Goals as goal

pub returns-then-k-eq0 : goal.returns-then-k-eq0
unfolding stack_word
returns-then-k-eq0 c = rw (back32 c.word_of.result (search rules), eq-eqb _ _ c.if-k-eq0.true) c.word_of.ensures

pub returns-then-k-s : goal.returns-then-k-s
unfolding stack_word
returns-then-k-s c = rw (back32 c.word_of-then-k-s.result (search rules), ne_eqb _ _ c.if-k-eq0.false, le-leb _ _ c.if-k-s.true) (rw c.rule_at.ensures at c.word_of-then-k-s.ensures)

pub returns : goal.returns
unfolding stack_word
returns c = rw (back32 c.word_of-2.result (search rules), ne_eqb _ _ c.if-k-eq0.false, lt-leb _ _ c.if-k-s.false) (rw c.place_at.ensures at c.word_of-2.ensures)
