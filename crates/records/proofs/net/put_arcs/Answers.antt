-- `records::net::put_arcs` meets its contract.
use mathlib.Core.Path.{◌∙◌}
use Rattle.records.specs.internal.Put.{arcs_put, den_of, num_of}
use Rattle.records.proofs.Put.{put-built, turned-all, turned_more, turned_none}
use Rattle.records.proofs.net.put_arcs.Goals as goal

pub loop-j-init : goal.loop-j-init
loop-j-init c = (turned_none, turned_none)

pub loop-j-preserved : goal.loop-j-preserved
loop-j-preserved c =
    let i = c.loop-j.invariant in
    let f = c.figures_of.ensures in
    let p = c.put_figures in
    (turned_more i.0 c.loop-j-test.true p.auto.out (p.ensures.0 ∙ rw f (put-built num_of _ _ 7 _)), turned_more i.1 c.loop-j-test.true p.auto.dens (p.ensures.1 ∙ rw f (put-built den_of _ _ 7 _)))

pub returns : goal.returns
unfolding arcs_put
returns c = let i = c.loop-j.invariant in (turned-all i.0 c.loop-j-test.false, turned-all i.1 c.loop-j-test.false)
