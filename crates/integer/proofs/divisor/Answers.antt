use Rattle.std.proofs.Common.{◌≡◌, sym, ◌∙◌, subst, arith}
use Rattle.integer.specs.Gcd.{gcd, gcd-le, gcd-pos, gcd-step, gcd-zero}
use Rattle.integer.proofs.divisor.Goals as goal

pub returns-then-low-limit : goal.returns-then-low-limit
returns-then-low-limit c =
    let h = c.loop-low.invariant in
    record { positive = λ _. omega arith; enough = rw (← h) (gcd-le c.loop-low.high c.loop-low.low (omega arith)); is = λ l. absurd (omega arith) }

pub loop-low-preserved : goal.loop-low-preserved
loop-low-preserved c = sym (gcd-step c.loop-low.high c.loop-low.low (omega arith)) ∙ c.loop-low.invariant

pub returns : goal.returns
returns c =
    let e : c.loop-low.high ≡ gcd c.args.a c.args.b = sym (gcd-zero c.loop-low.high) ∙ subst (λ y. gcd c.loop-low.high y ≡ gcd c.args.a c.args.b) (omega arith) c.loop-low.invariant in
    record { positive = λ l. rw e (gcd-pos c.args.a c.args.b l); enough = rw e (omega arith); is = λ l. e }
