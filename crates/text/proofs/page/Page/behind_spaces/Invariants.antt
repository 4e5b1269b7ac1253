-- The words before the index are printed.
use Rattle.std.proofs.Common.{◌*◌, take}
use Rattle.text.specs.Line.{behind_spaces}
use Rattle.text.specs.Page.{Prints}
use Rattle.text.proofs.page.Page.behind_spaces.Given as goal

abbrev pub invariant-loop-w : goal.invariant-loop-w
invariant-loop-w l = Prints l.initial.self (behind_spaces (take l.w-index l.words)) (l.w-index * 12) l.self
