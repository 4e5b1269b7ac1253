use mathlib.Core.Path.{sym, ◌∙◌}
use Rattle.costly_arc.specs.internal.Due.{ways_of}
use Rattle.loops.proofs.Laws.{filled_more, filled_none, filled-whole}
use Rattle.costly_arc.proofs.Pairs.{filled-left, no-ways}
use borrow.Author.Rules.{rules}
use native.Mathlib.Omega.{arith}
use Rattle.costly_arc.proofs.due.all_ways.Goals as goal
use Rattle.costly_arc.proofs.due.all_ways.Goals.{then-is_open_root, else-is_open_root}

pub loop-k-preserved : goal.loop-k-preserved
loop-k-preserved c =
    let a = c.args in
    let h = c.loop-k.invariant in
    elim c.if-is_open_root.branch [
      | then-is_open_root w ↦ rw w.ways-is (filled_more h (omega arith) (search rules) w.both_ways.ensures)
      | else-is_open_root w ↦ rw w.ways-is (filled-left h (omega arith) (rw c.no_figure-none.ensures (no-ways a.net a.seen a.p a.q a.t c.loop-k.k (sym c.is_open_root.ensures ∙ w.if-is_open_root.false))))
    ]

pub returns : goal.returns
unfolding ways_of
returns c = filled-whole c.loop-k.invariant (omega arith) (search rules)

pub loop-k-init : goal.loop-k-init
loop-k-init c = filled_none _ _ _
