use mathlib.Core.Path.{refl}
use Rattle.search.proofs.AtNode.{old-is}
use Rattle.search.proofs.scan.Working.arc_after.Goals as goal

pub returns : goal.returns
returns c = old-is c.args.self.nodes.now c.args.self.arcs.now _ _ c.arc.ensures refl (c.touching.ensures c.args.self.nodes.now)
