use native.Mathlib.Omega.{arith}
use Rattle.text.proofs.Pages.{prints_append, prints_most}
use Rattle.answers.proofs.put_reduced.Goals as goal

pub returns : goal.returns
returns c = prints_most (prints_append c.bytes.ensures (prints_append c.put_network.ensures c.put_stack.ensures)) (omega arith)
