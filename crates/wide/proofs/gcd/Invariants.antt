-- The divisor of x and y is that of a and b. The measure is y.
use Rattle.std.proofs.Common.{◌≡◌}
use Rattle.integer.specs.Gcd.{gcd}
use Rattle.wide.proofs.gcd.Given as goal

abbrev pub invariant-loop-y : goal.invariant-loop-y
invariant-loop-y l = gcd l.x l.y ≡ gcd l.a l.b

abbrev pub decreases-loop-y : goal.decreases-loop-y
decreases-loop-y l = l.y
