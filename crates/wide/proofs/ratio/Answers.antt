-- The product by m's sign fits, and is what is reduced.
use Rattle.std.proofs.Common.{◌≡◌, ◌*ℤ◌, rules}
use Rattle.std.specs.Int.{int_signum}
use mir.Syntax.{w128}
use mir.Val.{SFits}
use Rattle.wide.proofs.Sizes.{ratio-is, sign-fits}
use Rattle.wide.proofs.ratio.Goals as goal

pub overflow_mul-n : goal.overflow_mul-n
overflow_mul-n c =
    let s : c.signum.result ≡ int_signum c.args.m = search rules in
    let f : SFits w128 (c.args.n *ℤ c.signum.result) = rw s (sign-fits c.args.n c.args.m c.requires) in
    search rules

pub returns : goal.returns
returns c =
    let s : c.signum.result ≡ int_signum c.args.m = search rules in
    let f : SFits w128 (c.args.n *ℤ c.signum.result) = rw s (sign-fits c.args.n c.args.m c.requires) in
    rw (← ratio-is c.args.n c.args.m, ← s) (search rules)
