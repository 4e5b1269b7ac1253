use Rattle.costly_arc.proofs.Pairs.{none_from}
use Rattle.loops.proofs.Laws.{missed-all, missed-found, missed_more, missed-none}
use native.Mathlib.Omega.{arith}
use Rattle.costly_arc.proofs.due.any_due_pair.Goals as goal
use Rattle.costly_arc.proofs.due.any_due_pair.Goals.{else-q-ne0-via-then-q-ne0+else-any_due_under, else-q-ne0-via-else-q-ne0}

pub loop-k-init : goal.loop-k-init
loop-k-init c = missed-none _ _

pub returns-then-any_due_under : goal.returns-then-any_due_under
returns-then-any_due_under c = missed-found c.loop-k.invariant (omega arith) (rw (← c.bar.ensures, ← c.any_due_under.ensures, c.if-any_due_under.true))

pub loop-k-preserved : goal.loop-k-preserved
loop-k-preserved c =
    missed_more c.loop-k.invariant (omega arith)
    (elim c.else-q-ne0.branch [
      | else-q-ne0-via-then-q-ne0+else-any_due_under w ↦ rw (← w.bar.ensures, ← w.any_due_under.ensures, w.if-any_due_under.false)
      | else-q-ne0-via-else-q-ne0 w ↦ none_from c.args.seen _ _ c.args.ways.now c.args.c w.if-q-ne0.false
    ])

pub returns : goal.returns
returns c = missed-all c.loop-k.invariant (omega arith)
