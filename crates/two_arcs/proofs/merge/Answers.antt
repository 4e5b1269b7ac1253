use Rattle.std.proofs.Common.{rules}
use Rattle.step.specs.Figure.{larger, smaller}
use Rattle.step.specs.Outcome.{fits}
use Rattle.two_arcs.specs.TwoArcs.{merged}
use Rattle.two_arcs.proofs.merge.Goals as goal

pub returns-in_err-l : goal.returns-in_err-l
unfolding merged fits
returns-in_err-l c =
    let l = c.tighter.ensures larger (λ x y r p. p.2) in
    search rules

pub returns-in_err-u : goal.returns-in_err-u
unfolding merged fits
returns-in_err-u c =
    let l = c.tighter.ensures larger (λ x y r p. p.2) in
    let u = c.tighter-2.ensures smaller (λ x y r p. p.2) in
    search rules

pub returns : goal.returns
unfolding merged fits
returns c =
    let l = c.tighter.ensures larger (λ x y r p. p.2) in
    let u = c.tighter-2.ensures smaller (λ x y r p. p.2) in
    search rules
