-- `records::net::write_figures` meets its contract.
use mathlib.Core.Path.{refl}
use native.Mathlib.Omega.{arith}
use Rattle.loops.specs.Loops.{zeros}
use Rattle.records.proofs.Part.{numbered}
use Rattle.records.proofs.Put.{net-arrays}
use Rattle.records.proofs.net.write_figures.Goals as goal

pub returns : goal.returns
returns c =
    let a = c.args in
    let h = c.requires in
    let o = c.put_figure.ensures in
    let p = c.put_figures.ensures in
    let q = c.put_arcs.ensures in
    net-arrays a.net a.out.now (zeros 705) _ _ (numbered a.net.supply a.net.n (omega arith)) (numbered a.net.arcs a.net.m (omega arith)) h.0 h.1 h.2 refl o.0 p.0 q.0 o.1 p.1 q.1 c.write_denominators.ensures
