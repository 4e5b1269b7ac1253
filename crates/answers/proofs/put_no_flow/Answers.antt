use lib.Dec.{lit≤}
use Rattle.integer.specs.Machine.{back32}
use Rattle.text.proofs.Pages.{prints_append, prints_most}
use Rattle.answers.proofs.put_no_flow.Goals as goal

pub returns : goal.returns
returns c = prints_most (prints_append c.bytes.ensures (rw (back32 c.word_of.result c.word_of.type_inv, back32 c.word_of-2.result c.word_of-2.type_inv, c.word_of.ensures, c.word_of-2.ensures) at c.line.ensures)) (lit≤ tt)
