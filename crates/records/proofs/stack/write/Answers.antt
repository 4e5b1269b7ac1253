-- `records::stack::write` meets its contract.
use Rattle.std.proofs.Common.{◌+◌, ◌*◌, ◌++◌, ap, rules, arith}
use lib.ListN.{drop}
use lib.Seq.{length-take-le}
use Rattle.integer.specs.Machine.{back32}
use Rattle.loops.specs.Loops.{written}
use Rattle.loops.proofs.Laws.{filled-whole, filled_more, filled_none}
use borrow.Author.Tests.{le-leb, lt-leb}
use Rattle.records.specs.Logged.{with_stack}
use Rattle.records.proofs.stack.write.Goals as goal
use Rattle.records.proofs.stack.write.Goals.{else-s-le-MAX_STEPS-via-then-s-le-MAX_STEPS+else-out-ge-STACK_WORDS, else-s-le-MAX_STEPS-via-else-s-le-MAX_STEPS}

pub loop-k-init : goal.loop-k-init
loop-k-init c = filled_none _ _ _

pub loop-k-preserved : goal.loop-k-preserved
loop-k-preserved c =
    let e = length-take-le (1 + 2 * c.args.s) c.args.out.now (omega arith) in
    rw (back32 c.word_at.result (search rules)) (filled_more c.loop-k.invariant (omega arith) (omega arith) c.word_at.ensures)

pub returns-after-loop-k : goal.returns-after-loop-k
unfolding with_stack written
returns-after-loop-k c =
    let a = c.args in
    let e = length-take-le (1 + 2 * a.s) a.out.now (omega arith) in
    rw (le-leb _ _ c.if-s-le-MAX_STEPS.true, le-leb _ _ c.if-out-ge-STACK_WORDS.true)
    (ap (λ l. l ++ drop (1 + 2 * a.s) a.out.now) (filled-whole c.loop-k.invariant (omega arith) (omega arith)))

pub returns-else-s-le-MAX_STEPS : goal.returns-else-s-le-MAX_STEPS
unfolding with_stack
returns-else-s-le-MAX_STEPS c =
    elim c.else-s-le-MAX_STEPS.branch [
      | else-s-le-MAX_STEPS-via-then-s-le-MAX_STEPS+else-out-ge-STACK_WORDS w ↦ rw (le-leb _ _ w.if-s-le-MAX_STEPS.true, lt-leb _ _ w.if-out-ge-STACK_WORDS.false)
      | else-s-le-MAX_STEPS-via-else-s-le-MAX_STEPS w ↦ rw (lt-leb _ _ w.if-s-le-MAX_STEPS.false)
    ]
