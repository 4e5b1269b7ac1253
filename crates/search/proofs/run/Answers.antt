use Rattle.network.specs.ArcList.{no_arcs}
use Rattle.search.proofs.Runs.{begins, run_is}
use mathlib.Core.Path.{◌∙◌, ap, refl, sym}
use Rattle.search.proofs.run.Goals as goal

pub run_on-requires : goal.run_on-requires
run_on-requires c = begins _ _ _ (sym c.in_ok-ask.ensures) c.read_beside-nodes.ensures (c.clear.ensures ∙ ap no_arcs (sym c.count.ensures)) c.load.ensures

pub returns : goal.returns
returns c = run_is _ _ _ (sym c.in_ok-ask.ensures) c.read_beside-nodes.ensures (c.clear.ensures ∙ ap no_arcs (sym c.count.ensures)) c.load.ensures refl (sym c.count.ensures) c.run_on.ensures
