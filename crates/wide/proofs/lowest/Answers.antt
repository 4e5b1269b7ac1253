-- The quotients by the divisor; over 0 there is none.
use Rattle.std.proofs.Common.{◌≡◌, true, false, ◌/◌, pos, ◌-ℤ◌, rules, sym, ◌∙◌, arith}
use Rattle.std.specs.Int.Signed.{lt_z}
use mir.Syntax.{w32}
use mir.Val.{to_z}
use Rattle.integer.specs.Gcd.{gcd-pos}
use Rattle.integer.specs.Whole.{nat_abs-signed, signed-neg, signed-pos}
use Rattle.fraction.proofs.Laws.{fitted-no-den, fitted-no-num, fitted-yes, reduce-by, reduce-zero}
use Rattle.wide.proofs.lowest.Goals as goal
use Rattle.wide.proofs.lowest.Goals.{then-z-lt0, else-z-lt0, then-n-gt-MOST-via-then-n-gt-MOST, then-n-gt-MOST-via-else-n-gt-MOST+then-m-gt-MOST}

pub returns-then-d-eq0 : goal.returns-then-d-eq0
returns-then-d-eq0 c = sym (reduce-zero _ _ c.if-d-eq0.true)

pub nonzero_div-n : goal.nonzero_div-n
nonzero_div-n c = rw c.gcd-g.ensures (gcd-pos _ _ (omega arith))

pub nonzero_div-m : goal.nonzero_div-m
nonzero_div-m c = rw c.gcd-g.ensures (gcd-pos _ _ (omega arith))

pub returns-then-n-gt-MOST : goal.returns-then-n-gt-MOST
returns-then-n-gt-MOST c =
    let e = reduce-by c.args.z _ _ _ c.if-d-eq0.false (search rules) c.gcd-g.ensures in
    elim c.then-n-gt-MOST.branch [
      | then-n-gt-MOST-via-then-n-gt-MOST w ↦ sym (e ∙ fitted-no-num _ _ (rw nat_abs-signed w.if-n-gt-MOST.true))
      | then-n-gt-MOST-via-else-n-gt-MOST+then-m-gt-MOST w ↦ sym (e ∙ fitted-no-den _ _ w.if-m-gt-MOST.true)
    ]

pub returns : goal.returns
returns c =
    let z = c.args.z in
    let n = c.unsigned_abs-size.result / c.gcd-g.result in
    let e = reduce-by z _ _ _ c.if-d-eq0.false (search rules) c.gcd-g.ensures ∙ fitted-yes _ _ (rw nat_abs-signed c.if-n-gt-MOST.false) c.if-m-gt-MOST.false in
    elim c.if-z-lt0.branch [
      | then-z-lt0 w ↦
          let l : lt_z z (pos 0) ≡ true = search rules in
          let v : to_z w32 c.if-z-lt0.result-bits ≡ pos 0 -ℤ pos n = search rules in
          rw (v, signed-neg z n l) (sym e)
      | else-z-lt0 w ↦
          let l : lt_z z (pos 0) ≡ false = search rules in
          let v : to_z w32 c.if-z-lt0.result-bits ≡ pos n = search rules in
          rw (v, signed-pos z n l) (sym e)
    ]
