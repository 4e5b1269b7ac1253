use mathlib.Core.List.{append_assoc}
use native.Mathlib.Omega.{arith}
use Rattle.text.proofs.Pages.{prints_append, prints_most}
use Rattle.answers.proofs.put_end.Goals as goal

pub returns-in-NoFlow : goal.returns-in-NoFlow
returns-in-NoFlow c = rw c.in-NoFlow.is (prints_most (rw append_assoc at (prints_append c.put_no_flow.ensures c.put_stack.ensures)) (omega arith))
