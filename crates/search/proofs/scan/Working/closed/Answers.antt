use Rattle.costly_arc.proofs.Upward.{reached-more, reached-none}
use Rattle.network.proofs.Lists.{arc-is}
use Rattle.search.proofs.Scans.{reached-answer, reached-end, reached-on}
use Rattle.rules.proofs.Tests.{closed-open}
use Rattle.rules.proofs.Whole.{closed-beyond}
use mathlib.Core.Path.{refl, sym, ◌∙◌}
use native.Mathlib.Omega.{arith}
use Rattle.search.proofs.scan.Working.closed.Goals as goal
use Rattle.search.proofs.scan.Working.closed.Goals.{then-is_closed+else-is_found, else-is_closed}

pub loop-j-init : goal.loop-j-init
loop-j-init c = (c.args.self.legal.few_arcs, reached-none _ _ _ _)

pub returns-then-is_found : goal.returns-then-is_found
returns-then-is_found c = let h = c.loop-j.invariant in reached-answer h.1 (omega arith) (rw (c.arc.ensures, arc-is c.args.self.nodes.now c.args.self.arcs.now c.loop-j.j (omega arith)) at c.at_arc-x.ensures) (sym c.is_found.ensures ∙ c.if-is_found.true)

pub returns : goal.returns
returns c = reached-end c.loop-j.invariant.1 refl (λ j l. closed-beyond c.args.self.legal j (omega (arith, l, c.loop-j-test.false)))

pub loop-j-preserved : goal.loop-j-preserved
loop-j-preserved c =
    let h = c.loop-j.invariant in
    let q = arc-is c.args.self.nodes.now c.args.self.arcs.now c.loop-j.j (omega (arith, h.0)) in (
      h.0,
      elim c.if-is_closed.branch [
        | then-is_closed+else-is_found w ↦ reached-on h.1 (omega (arith, h.0)) (rw (w.arc.ensures, q) at w.at_arc-x.ensures) (sym w.is_found.ensures ∙ w.if-is_found.false)
        | else-is_closed w ↦ reached-more _ _ _ _ h.1 (omega (arith, h.0)) (closed-open c.args.self.legal _ (c.read.ensures ∙ q) (sym c.is_closed.ensures ∙ w.if-is_closed.false))
      ],
    )
