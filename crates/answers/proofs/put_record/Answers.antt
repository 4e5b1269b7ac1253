use native.Mathlib.Omega.{arith}
use Rattle.text.proofs.Pages.{prints_append, prints_most}
use Rattle.answers.specs.Answers.{record_lines}
use Rattle.answers.proofs.put_record.Goals as goal

pub returns : goal.returns
unfolding record_lines
returns c = prints_most (prints_append c.put_part.ensures (prints_append c.put_part-2.ensures c.put_part-3.ensures)) (omega arith)
