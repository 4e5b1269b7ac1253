-- Both products are exact, so their bits are the same where they are.
use Rattle.std.proofs.Common.{◌≡◌, pos, ◌*ℤ◌, rules}
use mir.Syntax.{w128}
use mir.Val.{SFits}
use Rattle.integer.proofs.Bits.{eqb-bits}
use Rattle.parallel_arcs.specs.internal.Multiple.{is_cross}
use Rattle.parallel_arcs.proofs.multiple.is_cross.Goals as goal

pub returns : goal.returns
unfolding is_cross
returns c =
    let s = c.args in
    let f : SFits w128 c.cross_both.result = search rules in
    let g : SFits w128 c.cross_both-2.result = search rules in
    let n : c.cross_both.result ≡ s.x.num *ℤ s.b.num *ℤ pos s.y.den *ℤ pos s.a.den = search rules in
    let m : c.cross_both-2.result ≡ s.y.num *ℤ s.a.num *ℤ pos s.x.den *ℤ pos s.b.den = search rules in
    rw (eqb-bits f g, n, m)
