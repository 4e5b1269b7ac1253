-- `records::net::Record::figure` meets its contract.
use Prim.Native.Nat.{◌+◌}
use Rattle.integer.specs.Machine.{back32}
use Rattle.records.specs.Arrays.{figure_at}
use Rattle.fraction.specs.Words.{word}
use borrow.Author.Rules.{rules}
use Rattle.records.proofs.net.Record.figure.Goals as goal

pub returns : goal.returns
unfolding figure_at
returns c = rw (c.from_words.ensures, back32 (word c.args.self.words.now (2 + c.args.k)) (search rules), back32 (word c.args.self.words.now (2 + c.count.result + c.args.k)) (search rules), c.count.ensures)
