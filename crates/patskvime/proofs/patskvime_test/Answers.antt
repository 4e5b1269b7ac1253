use Rattle.patskvime.proofs.Ranges.{test-ranged}
use Rattle.patskvime.proofs.patskvime_test.Goals as goal

pub returns : goal.returns
returns c = record { answer = _; says = c.test-answer.ensures; code = c.number.ensures; ranged = rw c.number.ensures (test-ranged c.test-answer.ensures) }
