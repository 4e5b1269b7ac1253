-- `records::put_figures` meets its contract.
use Rattle.records.specs.internal.Put.{put_from}
use Rattle.records.proofs.Put.{turned-all, turned_more, turned_none}
use Rattle.records.proofs.put_figures.Goals as goal

pub returns : goal.returns
unfolding put_from
returns c = let i = c.loop-i.invariant in (turned-all i.0 c.loop-i-test.false, turned-all i.1 c.loop-i-test.false)

pub loop-i-init : goal.loop-i-init
loop-i-init c = (turned_none, turned_none)

pub loop-i-preserved : goal.loop-i-preserved
loop-i-preserved c =
    let i = c.loop-i.invariant in
    let p = c.put_figure in
    (turned_more i.0 c.loop-i-test.true p.auto.out p.ensures.0, turned_more i.1 c.loop-i-test.true p.auto.dens p.ensures.1)
