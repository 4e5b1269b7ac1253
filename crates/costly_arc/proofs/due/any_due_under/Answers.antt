use Rattle.costly_arc.proofs.Pairs.{none-due}
use Rattle.loops.proofs.Laws.{missed-all, missed-found, missed_more, missed-none}
use borrow.Author.Tests.{le-ltb, lt-ltb}
use native.Mathlib.Omega.{arith}
use Rattle.costly_arc.proofs.due.any_due_under.Goals as goal
use Rattle.costly_arc.proofs.due.any_due_under.Goals.{else-y-ne0-via-then-y-ne0+then-seen-k+else-is_under, else-y-ne0-via-then-y-ne0+else-seen-k, else-y-ne0-via-else-y-ne0}

pub loop-k-init : goal.loop-k-init
loop-k-init c = missed-none _ _

pub returns-then-is_under : goal.returns-then-is_under
returns-then-is_under c = missed-found c.loop-k.invariant (omega arith) (rw (le-ltb _ _ c.if-seen-k.true, ← c.sum.ensures, ← c.is_under.ensures, c.if-is_under.true))

pub returns : goal.returns
returns c = missed-all c.loop-k.invariant (omega arith)

pub loop-k-preserved : goal.loop-k-preserved
loop-k-preserved c =
    missed_more c.loop-k.invariant (omega arith)
    (elim c.else-y-ne0.branch [
      | else-y-ne0-via-then-y-ne0+then-seen-k+else-is_under w ↦ rw (le-ltb _ _ w.if-seen-k.true, ← w.sum.ensures, ← w.is_under.ensures, w.if-is_under.false)
      | else-y-ne0-via-then-y-ne0+else-seen-k w ↦ rw (lt-ltb _ _ w.if-seen-k.false)
      | else-y-ne0-via-else-y-ne0 w ↦ none-due c.args.seen c.args.w c.args.q c.args.ways.now c.args.c _ w.if-y-ne0.false
    ])
