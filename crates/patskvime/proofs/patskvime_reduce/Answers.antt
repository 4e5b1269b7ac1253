use Rattle.patskvime.proofs.Ranges.{ranged}
use Rattle.patskvime.proofs.patskvime_reduce.Goals as goal

pub code-requires : goal.code-requires
code-requires c = rw c.in-Ok.is at (ranged _ _ _ _ _ c.reduce.ensures)

pub returns-in-Ok : goal.returns-in-Ok
returns-in-Ok c = let R = c.reduce.ensures in record { answer = _; says = R; code = rw c.in-Ok.is c.code.ensures; ranged = ranged _ _ _ _ _ R }

pub returns-in-Err : goal.returns-in-Err
returns-in-Err c = let R = c.reduce.ensures in record { answer = _; says = R; code = rw c.in-Err.is c.number.ensures; ranged = ranged _ _ _ _ _ R }
