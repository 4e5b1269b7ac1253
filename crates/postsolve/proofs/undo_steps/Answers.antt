use mathlib.Core.Path.{◌∙◌}
use native.Mathlib.Omega.{arith}
use Rattle.postsolve.proofs.Steps.{descended-more, descended-all, way_back_lem}
use Rattle.postsolve.proofs.undo_steps.Goals as goal

pub loop-k-preserved : goal.loop-k-preserved
loop-k-preserved c =
    let h = c.loop-k.invariant in
    let u = c.undo_turn-back.ensures in
    (descended-more _ h.0 (omega arith) u.0, descended-more _ h.1 (omega arith) u.1)

pub returns : goal.returns
returns c =
    let h = c.loop-k.invariant in
    let way = descended-all _ h.0 (omega arith) in
    (λ ss l g. way ∙ rw (← l) (way_back_lem _ ss _ g), descended-all _ h.1 (omega arith))
