-- A node's balance and supply are those of its number, whether listed or not.
use Rattle.std.proofs.Common.{◌≡◌, ◌+◌, arith, ◌∙◌, refl}
use Rattle.loops.specs.Loops.{all}
use Rattle.figures.proofs.Laws.{one_more}
use Rattle.figures.specs.Figures.{balance_of}
use Rattle.figures.proofs.ask_nodes.Goals as goal
use Rattle.figures.proofs.ask_nodes.Goals.{then-i-lt-MAX_NODES, else-i-lt-MAX_NODES}

pub loop-i-init : goal.loop-i-init
unfolding all
loop-i-init c = (refl, refl)

pub loop-i-preserved : goal.loop-i-preserved
loop-i-preserved c =
    let w : c.if-i-lt-MAX_NODES.w ≡ balance_of c.args.net.now c.args.pair.now (c.loop-i.i + 1) = elim c.if-i-lt-MAX_NODES.branch [ then-i-lt-MAX_NODES w ↦ w.w-is ∙ c.balances-s.ensures (c.loop-i.i + 1) (omega (arith, w.if-i-lt-MAX_NODES.true)) | else-i-lt-MAX_NODES w ↦ w.w-is ∙ w.balance-w.ensures ] in
    let h = c.loop-i.invariant in
    (one_more _ _ h.0 (rw w at c.ask_node-a.ensures.0), one_more _ _ h.1 (rw (w, c.figure_at.ensures) at c.ask_node-a.ensures.1))
