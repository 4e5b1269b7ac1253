use mathlib.Core.Path.{◌∙◌, ap}
use Rattle.loops.specs.Loops.{zeros}
use Rattle.network.specs.ArcList.{no_arcs}
use Rattle.restoration.proofs.Entry.{says}
use Rattle.restoration.proofs.restore.Goals as goal

pub returns : goal.returns
returns c = let f = rw (c.clear.auto.s, c.clear-2.auto.s) at c.restore_in-r.ensures in says _ _ _ _ _ _ _ f (c.clear-3.ensures ∙ ap zeros c.restore_in-r.auto.scratch) (c.clear-4.ensures ∙ ap no_arcs c.restore_in-r.auto.arcs)
