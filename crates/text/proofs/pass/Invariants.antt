-- The words that end among the bytes before the index are stored.
use Rattle.text.proofs.Words.{Passing}
use Rattle.text.proofs.pass.Given as goal

abbrev pub invariant-loop-b : goal.invariant-loop-b
invariant-loop-b l = Passing l.text l.fn.words l.b-index l.state l.count l.words
