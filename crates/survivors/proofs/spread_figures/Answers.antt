-- `survivors::spread_figures` meets its contract.
use Rattle.std.proofs.Common.{◌≡◌, ◌+◌, ℕ, Bool, false, get_or}
use Rattle.loops.proofs.Laws.{Counted, counted-no, counted_none, counted-yes, filled_more, filled_none, filled-whole}
use Rattle.survivors.specs.internal.Ranks.{spread_figure}
use Rattle.survivors.proofs.Ranks.{rank_is}
use mathlib.Core.Path.{◌∙◌}
use Rattle.std.proofs.lemmas.List.{length-replicate}
use native.Mathlib.Omega.{arith}
use Rattle.survivors.proofs.spread_figures.Goals as goal
use Rattle.survivors.proofs.spread_figures.Goals.{then-used, else-used}

pub loop-i-init : goal.loop-i-init
loop-i-init g c = (filled_none _ _ _, counted_none _ _)

pub loop-i-preserved : goal.loop-i-preserved
loop-i-preserved g c =
    let n = g.row.N in
    let i = c.loop-i.i in
    let p : ℕ → Bool = λ k. get_or c.args.used.now k false in
    let h = c.loop-i.invariant.1 in
    let turn : (c.if-used.at ≡ spread_figure c.args.used.now c.args.figures.now n i) × Counted p n (i + 1) c.if-used.d =
    elim c.if-used.branch [
      | then-used w ↦ (w.at-is ∙ w.figure_at.ensures ∙ rw (w.if-used.true, rank_is p n i (omega arith) w.if-used.true, ← h.is), counted-yes h (omega arith) w.if-used.true w.d-is)
      | else-used w ↦ (w.at-is ∙ rw w.if-used.false, counted-no h (omega arith) w.if-used.false w.d-is)
    ] in
    (filled_more c.loop-i.invariant.0 (omega arith) (rw length-replicate (omega arith)) turn.0, turn.1)

pub returns : goal.returns
returns g c = filled-whole c.loop-i.invariant.0 (omega arith) (rw length-replicate (omega arith))
