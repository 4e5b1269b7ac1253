use Rattle.loops.proofs.Laws.{scanned-all}
use Rattle.network.proofs.Laws.{sought-no, sought-past, sought-yes}
use Rattle.network.proofs.Lists.{arc-is}
use Rattle.network.specs.Network.{touching_after}
use mathlib.Core.Path.{◌∙◌}
use native.Mathlib.Omega.{arith}
use Rattle.network.proofs.list.touching.Goals as goal

-- `network::list::touching` meets its contract.

pub returns-then-k-ge-MAX_ARCS : goal.returns-then-k-ge-MAX_ARCS
unfolding touching_after
returns-then-k-ge-MAX_ARCS c = λ nodes. sought-past _ c.if-k-ge-MAX_ARCS.true

pub returns-then-touches : goal.returns-then-touches
unfolding touching_after
returns-then-touches c = λ nodes. sought-yes (c.loop-j.invariant nodes) c.if-k-ge-MAX_ARCS.false c.loop-j-test.true (rw (← (c.read.ensures ∙ arc-is nodes _ _ c.loop-j-test.true), ← c.touches.ensures, c.if-touches.true))

pub loop-j-preserved : goal.loop-j-preserved
unfolding touching_after
loop-j-preserved c = λ nodes. sought-no (c.loop-j.invariant nodes) c.if-k-ge-MAX_ARCS.false c.loop-j-test.true (rw (← (c.read.ensures ∙ arc-is nodes _ _ c.loop-j-test.true), ← c.touches.ensures, c.if-touches.false))

pub returns : goal.returns
unfolding touching_after
returns c = λ nodes. scanned-all _ _ (c.loop-j.invariant nodes) (omega arith)
