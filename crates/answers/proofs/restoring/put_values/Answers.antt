use native.Mathlib.Omega.{arith}
use Rattle.text.proofs.Pages.{prints_append, prints_most}
use Rattle.answers.proofs.restoring.put_values.Goals as goal

pub returns : goal.returns
returns c = prints_most (prints_append c.put_part.ensures c.put_part-2.ensures) (omega arith)
