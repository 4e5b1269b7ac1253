use Rattle.patskvime.proofs.Ranges.{restore-ranged}
use Rattle.patskvime.proofs.patskvime_restore.Goals as goal

pub returns : goal.returns
returns c = record { answer = _; says = c.restore-restored.ensures; code = c.number.ensures; ranged = rw c.number.ensures (restore-ranged c.restore-restored.ensures) }
