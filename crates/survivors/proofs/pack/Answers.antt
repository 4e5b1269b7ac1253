-- `survivors::pack` meets its contract.
use Rattle.survivors.specs.Survivors.{packed_of}
use Rattle.survivors.proofs.pack.Goals as goal

pub returns : goal.returns
unfolding packed_of
returns c = rw (c.pack_arcs.ensures, c.pack_nodes.ensures.0)
