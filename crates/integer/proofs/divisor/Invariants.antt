-- The divisor of high and low is that of a and b. The measure is low.
use Rattle.std.proofs.Common.{◌≡◌}
use Rattle.integer.specs.Gcd.{gcd}
use Rattle.integer.proofs.divisor.Given as goal

abbrev pub invariant-loop-low : goal.invariant-loop-low
invariant-loop-low l = gcd l.high l.low ≡ gcd l.a l.b

abbrev pub decreases-loop-low : goal.decreases-loop-low
decreases-loop-low l = l.low
