use Prim.Native.Nat.{◌≤◌}
use Rattle.costly_arc.proofs.Upward.{reached-more, reached-none}
use Rattle.search.proofs.Scans.{reached-answer, reached-end, reached-on}
use Rattle.rules.proofs.Whole.{node-unused}
use Rattle.search.proofs.AtNode.{answered, elsewhere, not-supplied}
use mathlib.Core.Path.{refl, sym, ◌∙◌}
use native.Mathlib.Omega.{arith}
use Rattle.search.proofs.scan.Working.at_nodes.Goals as goal
use Rattle.search.proofs.scan.Working.at_nodes.Goals.{then-has_degree+then-may_apply+else-is_found, then-has_degree+else-may_apply, else-has_degree}

pub returns-then-is_found : goal.returns-then-is_found
returns-then-is_found c = let l : c.loop-i.i ≤ 32 = omega (arith, c.loop-i.invariant, c.loop-i-test.true) in reached-answer c.loop-i.invariant.2 l (answered c.args.self.legal c.args.degrees.now c.requires.0 c.loop-i.i (omega (arith, l)) c.args.k c.requires.1 c.asks_of-asks.ensures (sym c.has_degree.ensures ∙ c.if-has_degree.true) c.gather-near.ensures c.at_node-x.ensures) (sym c.is_found.ensures ∙ c.if-is_found.true)

pub returns : goal.returns
returns c = let g = c.args.self.legal in reached-end c.loop-i.invariant.2 refl (λ j l. node-unused g c.args.k j c.requires.1 (g.nodes_beyond j (omega (arith, l, c.loop-i-test.false))))

pub loop-i-init : goal.loop-i-init
loop-i-init c = (omega arith, c.args.self.legal.few_nodes, reached-none _ _ _ _)

pub loop-i-preserved : goal.loop-i-preserved
loop-i-preserved c =
    let h = c.loop-i.invariant in
    let g = c.args.self.legal in
    let r = c.requires in
    let l : c.loop-i.i ≤ 32 = omega (arith, h, c.loop-i-test.true) in
    let at = sym c.has_degree.ensures in (
      omega arith,
      h.1,
      elim c.if-has_degree.branch [
        | then-has_degree+then-may_apply+else-is_found w ↦ reached-on h.2 l (answered g c.args.degrees.now r.0 c.loop-i.i (omega (arith, l)) c.args.k r.1 c.asks_of-asks.ensures (at ∙ w.if-has_degree.true) w.gather-near.ensures w.at_node-x.ensures) (sym w.is_found.ensures ∙ w.if-is_found.false)
        | then-has_degree+else-may_apply w ↦ reached-more _ _ _ _ h.2 l (not-supplied g c.args.degrees.now r.0 c.loop-i.i (omega (arith, l)) c.args.k r.1 c.asks_of-asks.ensures (sym w.may_apply.ensures ∙ w.if-may_apply.false))
        | else-has_degree w ↦ reached-more _ _ _ _ h.2 l (elsewhere g c.args.degrees.now r.0 c.loop-i.i (omega (arith, l)) c.args.k r.1 c.asks_of-asks.ensures h.0 (at ∙ w.if-has_degree.false))
      ],
    )
