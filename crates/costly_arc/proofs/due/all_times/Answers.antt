use Rattle.costly_arc.proofs.NodeTimes.{timed-all, timed-more, timed-none, timed-skip}
use mathlib.Core.Path.{◌∙◌, sym}
use native.Mathlib.Omega.{arith}
use Rattle.costly_arc.proofs.due.all_times.Goals as goal
use Rattle.costly_arc.proofs.due.all_times.Goals.{then-is_open_root, else-is_open_root}

pub loop-k-init : goal.loop-k-init
loop-k-init c = timed-none _ _

pub returns : goal.returns
returns c = timed-all c.loop-k.invariant (omega arith)

pub loop-k-preserved : goal.loop-k-preserved
loop-k-preserved c =
    elim c.if-is_open_root.branch [
      | then-is_open_root w ↦ timed-more c.loop-k.invariant (omega arith) w.after.ensures (w.at-is ∙ w.put_time.ensures)
      | else-is_open_root w ↦ timed-skip c.loop-k.invariant (omega arith) (sym c.is_open_root.ensures ∙ w.if-is_open_root.false) w.at-is
    ]
