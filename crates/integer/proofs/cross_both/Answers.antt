-- A product of a number of 64 bits and two of 32 is exact in 128.
use Rattle.std.specs.Prelude.{ℕ, ◌*◌, ◌<◌, ◌≤◌, ℤ, pos, nat_abs, ◌*ℤ◌}
use Rattle.std.proofs.Common.{mul-le-mul, arith, rules}
use Rattle.std.specs.Int.Signed.{nat_abs-le}
use mir.Syntax.{w64, w128}
use mir.Val.{SFits}
use Rattle.integer.specs.Whole.{nat_abs_mul, *ℤ-assoc}
use Rattle.integer.specs.Machine.{sfits-by}
use Rattle.integer.proofs.cross_both.Goals as goal

fits : (n : ℤ) (d e : ℕ) → SFits w64 n → d < 4294967296 → e < 4294967296 → SFits w128 (n *ℤ pos (d * e))
fits n d e f g h =
    let s : nat_abs n ≤ 9223372036854775808 = nat_abs-le n f.sfits in
    let a : d ≤ 4294967295 = omega arith in
    let b : e ≤ 4294967295 = omega arith in
    sfits-by (rw nat_abs_mul (omega (arith, mul-le-mul s (mul-le-mul a b))))

pub overflow_mul-result-2 : goal.overflow_mul-result-2
overflow_mul-result-2 c =
    let a = c.args in
    let f : SFits w128 (a.n *ℤ pos (a.d * a.e)) = fits a.n a.d a.e c.ranges.n (omega arith) (omega arith) in
    search rules

pub returns : goal.returns
returns c =
    let a = c.args in
    let f : SFits w128 (a.n *ℤ pos (a.d * a.e)) = fits a.n a.d a.e c.ranges.n (omega arith) (omega arith) in
    rw (*ℤ-assoc a.n (pos a.d) (pos a.e)) (search rules)
