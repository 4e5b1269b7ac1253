-- `records::figure_at` meets its contract.
use Rattle.integer.specs.Machine.{back32}
use Rattle.records.specs.Arrays.{figure_at}
use borrow.Author.Rules.{rules}
use Rattle.records.proofs.figure_at.Goals as goal

pub returns : goal.returns
unfolding figure_at
returns c = rw (c.from_words.ensures, back32 c.word_behind.result (search rules), back32 c.word_behind-2.result (search rules), c.word_behind-2.ensures, c.word_behind.ensures)
