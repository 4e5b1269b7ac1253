-- `records::net::load` meets its contract.
use Rattle.records.specs.Network.{loaded}
use Rattle.records.proofs.net.load.Goals as goal

pub returns-in-Some : goal.returns-in-Some
unfolding loaded
returns-in-Some c = let h = c.in-Some.ensures in rw (h.0, ← h.2, ← h.3, ← h.1) c.load.ensures

pub returns-in_default : goal.returns-in_default
unfolding loaded
returns-in_default c = rw c.in_default.ensures
