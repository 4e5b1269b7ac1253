use native.Mathlib.Omega.{arith}
use Rattle.text.proofs.Pages.{prints_append, prints_most}
use Rattle.answers.proofs.restoring.put_restored.Goals as goal

pub returns : goal.returns
returns c = prints_most (prints_append c.bytes.ensures (prints_append c.put_pair.ensures c.put_values.ensures)) (omega arith)
