use Rattle.loops.proofs.Laws.{scanned-all, scanned-none}
use Rattle.parallel_arcs.proofs.Search.{past, found, goes_on_lem}
use Rattle.parallel_arcs.specs.ParallelArcs.{parallel_arc}
use Rattle.step.specs.Outcome.{only_where}
use mathlib.Core.Path.{sym, ◌∙◌}
use native.Mathlib.Omega.{arith}
use borrow.Author.Tests.{eq-eqb, ne_eqb}
use Rattle.parallel_arcs.proofs.parallel_arc.Goals as goal

pub returns-then-t-eq0 : goal.returns-then-t-eq0
unfolding parallel_arc only_where
returns-then-t-eq0 c = rw (← c.arc_at-t.ensures, eq-eqb _ _ c.if-t-eq0.true)

pub returns-then-j-ge-MAX_ARCS : goal.returns-then-j-ge-MAX_ARCS
unfolding parallel_arc only_where
returns-then-j-ge-MAX_ARCS c = rw (← c.arc_at-t.ensures, ne_eqb _ _ c.if-t-eq0.false) (past _ _ c.if-j-ge-MAX_ARCS.true)

pub loop-k-init : goal.loop-k-init
unfolding parallel_arc only_where
loop-k-init c = scanned-none _ _ _ _ _

pub returns-then-not-passes : goal.returns-then-not-passes
unfolding parallel_arc only_where
returns-then-not-passes c = rw (← c.arc_at-t.ensures, ne_eqb _ _ c.if-t-eq0.false) (found c.loop-k.invariant c.if-j-ge-MAX_ARCS.false c.loop-k-test.true (rw (← c.arc_at-arc.ensures) c.alike-o.ensures) (sym c.passes.ensures ∙ c.if-not-passes.true))

pub loop-k-preserved : goal.loop-k-preserved
unfolding parallel_arc only_where
loop-k-preserved c = goes_on_lem {o = c.alike-o.result} c.loop-k.invariant c.if-j-ge-MAX_ARCS.false c.loop-k-test.true (rw (← c.arc_at-arc.ensures) c.alike-o.ensures) (sym c.passes.ensures ∙ c.if-not-passes.false)

pub returns : goal.returns
unfolding parallel_arc only_where
returns c = rw (← c.arc_at-t.ensures, ne_eqb _ _ c.if-t-eq0.false) (scanned-all _ _ c.loop-k.invariant (omega arith))
