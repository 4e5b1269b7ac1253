use Rattle.std.proofs.Common.{◌≡◌, sym, ◌∙◌, subst, arith}
use Rattle.integer.specs.Gcd.{gcd, gcd-zero, gcd-step}
use Rattle.wide.proofs.gcd.Goals as goal

pub loop-y-preserved : goal.loop-y-preserved
loop-y-preserved c = sym (gcd-step c.loop-y.x c.loop-y.y (omega arith)) ∙ c.loop-y.invariant

pub returns : goal.returns
returns c =
    sym (gcd-zero c.loop-y.x) ∙ subst (λ y. gcd c.loop-y.x y ≡ gcd c.args.a c.args.b) (omega arith) c.loop-y.invariant
