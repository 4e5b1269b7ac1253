-- The bytes before the index are printed.
use Rattle.std.proofs.Common.{take}
use Rattle.text.specs.Page.{Prints}
use Rattle.text.proofs.page.Page.bytes.Given as goal

abbrev pub invariant-loop-b : goal.invariant-loop-b
invariant-loop-b l = Prints l.initial.self (take l.b-index l.bytes) l.b-index l.self
