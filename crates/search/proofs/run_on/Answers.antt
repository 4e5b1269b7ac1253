use Rattle.std.specs.Prelude.{Some, None}
use Rattle.network.specs.ArcList.{arcs_in}
use Rattle.search.proofs.Runs.{underway-none, ends-here, goes-on}
use mathlib.Core.Path.{sym, ◌∙◌}
use native.Mathlib.Omega.{arith}
use Rattle.search.proofs.run_on.Goals as goal

pub loop-step-init : goal.loop-step-init
loop-step-init c = rw c.start-at.ensures (underway-none c.requires.1 c.requires.0)

pub returns-in-Refuted : goal.returns-in-Refuted
returns-in-Refuted c = rw c.conclude.ensures (rw c.start-at.ensures at (ends-here c.loop-step.invariant (Some (record { rule = c.in-Refuted.rule; place = c.in-Refuted.place })) (sym c.next-x.ensures.0 ∙ c.in-Refuted.is)))

pub returns-in-Stops : goal.returns-in-Stops
returns-in-Stops c = rw c.conclude-in-Stops.ensures (rw c.start-at.ensures at (ends-here c.loop-step.invariant None (sym c.next-x.ensures.0 ∙ c.in-Stops.is)))

pub loop-step-smaller : goal.loop-step-smaller
loop-step-smaller c = let h = c.loop-step.invariant in rw (c.take-at.ensures.is c.loop-step.arcs) (omega (arith, h.ready.few))

pub loop-step-preserved : goal.loop-step-preserved
loop-step-preserved c =
    let h = c.loop-step.invariant in
    let t = c.take-at.ensures in
    rw (t.is (arcs_in c.loop-step.arcs), t.logged, t.listed) (goes-on h (rw c.time.ensures at c.next-x.ensures.1) c.in-Takes.step (sym c.next-x.ensures.0 ∙ c.in-Takes.is))
