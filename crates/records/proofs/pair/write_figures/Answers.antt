-- `records::pair::write_figures` meets its contract.
use mathlib.Core.Path.{refl}
use native.Mathlib.Omega.{arith}
use Rattle.records.proofs.Part.{numbered}
use Rattle.records.proofs.Put.{pair-arrays}
use Rattle.records.proofs.pair.write_figures.Goals as goal

pub returns : goal.returns
returns c =
    let a = c.args in
    let h = c.requires in
    let p = c.put_figures.ensures in
    let q = c.put_figures-2.ensures in
    pair-arrays a.n a.m a.pair _ _ _ _ (numbered a.pair.price a.n (omega arith)) (numbered a.pair.flow a.m (omega arith)) h.0 h.1 h.2 refl p.0 q.0 p.1 q.1 c.write_denominators.ensures
