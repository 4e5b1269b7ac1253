use Rattle.network.proofs.Lists.{arcs-copied}
use Rattle.network.proofs.list.view.Goals as goal

pub returns : goal.returns
returns c = rw c.no_arc-at.ensures (arcs-copied c.args.arcs.now _ c.min-n.result c.min-n.ensures c.copy_from_slice.ensures.after)
