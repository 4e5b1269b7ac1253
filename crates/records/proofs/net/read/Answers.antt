-- `records::net::read` meets its contract.
use mathlib.Core.Path.{◌∙◌, ap}
use Rattle.loops.specs.Loops.{upto}
use Rattle.records.specs.Network.{arc_turn, net_of, read_of}
use Rattle.records.proofs.net.read.Goals as goal

pub returns-in-Some : goal.returns-in-Some
unfolding net_of read_of
returns-in-Some c =
    let h = c.in-Some.ensures in
    rw (h.0, ← h.2, ← h.3, ← h.1) (c.join.ensures ∙ c.arcs.ensures _ ∙ ap (upto (arc_turn _ _ _) _) (c.nodes.ensures _))

pub returns-in-None : goal.returns-in-None
unfolding read_of
returns-in-None c = let h = c.in-None.ensures in rw h c.empty_net.ensures
