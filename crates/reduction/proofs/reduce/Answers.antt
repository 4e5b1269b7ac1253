use mathlib.Core.Path.{◌∙◌, ap}
use Rattle.loops.specs.Loops.{zeros}
use Rattle.network.specs.ArcList.{no_arcs}
use Rattle.reduction.proofs.Entry.{says}
use Rattle.reduction.proofs.reduce.Goals as goal

pub returns : goal.returns
returns c = let f = rw (c.clear.auto.s, c.clear-2.auto.s) at c.reduce_in-r.ensures in says _ _ _ _ _ f (c.clear-3.ensures ∙ ap zeros c.reduce_in-r.auto.scratch) (c.clear-4.ensures ∙ ap no_arcs c.reduce_in-r.auto.arcs)
