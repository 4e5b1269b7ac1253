-- `survivors::node_ranks` meets its contract.
use Prim.Native.Nat.{◌+◌}
use Rattle.loops.proofs.Laws.{Counted, counted-no, counted_none, counted-yes, filled_more, filled_none, filled-whole}
use Rattle.survivors.proofs.Ranks.{rank_up}
use Rattle.network.specs.Network.{is_here}
use Rattle.survivors.specs.Survivors.{rank_of}
use mathlib.Core.Path.{◌∙◌, sym}
use native.Mathlib.Omega.{arith}
use Rattle.survivors.proofs.node_ranks.Goals as goal
use Rattle.survivors.proofs.node_ranks.Goals.{then-here, else-here}

pub loop-i-init : goal.loop-i-init
loop-i-init c = (filled_none _ _ _, counted_none _ _)

pub loop-i-preserved : goal.loop-i-preserved
unfolding rank_of
loop-i-preserved c =
    let counted : Counted (λ k. is_here c.args.net k) 33 (c.loop-i.i + 1) c.if-here.d =
    elim c.if-here.branch [
      | then-here w ↦ counted-yes c.loop-i.invariant.1 (omega arith) w.if-here.true w.d-is
      | else-here w ↦ counted-no c.loop-i.invariant.1 (omega arith) w.if-here.false w.d-is
    ] in
    (filled_more c.loop-i.invariant.0 (omega arith) (omega arith) (counted.is ∙ sym (rank_up (λ k. is_here c.args.net k) 33 c.loop-i.i (omega arith))), counted)

pub returns : goal.returns
returns c = filled-whole c.loop-i.invariant.0 (omega arith) (omega arith)
