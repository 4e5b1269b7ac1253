use mathlib.Core.Path.{◌∙◌}
use borrow.Author.Tests.{leb-true}
use Rattle.std.proofs.lemmas.Result.{err_from_is_err_and}
use Rattle.records.proofs.Questions.{yes-asked}
use Rattle.reduction.proofs.Found.{found, finished, refused, has_room_lem, no-out, no_stack}
use Rattle.reduction.proofs.reduce_in.Goals as goal

pub returns-in_err-unless : goal.returns-in_err-unless
returns-in_err-unless c =
    let p = err_from_is_err_and c.from_residual.result c.from_residual.ensures.1 in
    rw (p.1, p.2) (refused (no-out _ _ _ _ _ c.in_err-unless.ensures) c.requires.0 c.requires.1)

pub returns-in_err-unless-2 : goal.returns-in_err-unless-2
returns-in_err-unless-2 c =
    let p = err_from_is_err_and c.from_residual-in_err-unless-2.result c.from_residual-in_err-unless-2.ensures.1 in
    rw (p.1, p.2) (refused (no_stack _ _ _ _ _ c.in_ok-unless.ensures c.in_err-unless-2.ensures) c.requires.0 c.requires.1)

pub returns-in_err-ran : goal.returns-in_err-ran
returns-in_err-ran c =
    let p = err_from_is_err_and c.from_residual-in_err-ran.result c.from_residual-in_err-ran.ensures.1 in
    rw (p.1, p.2) (refused (has_room_lem _ _ _ _ _ c.in_ok-unless.ensures c.in_ok-unless-2.ensures ∙ c.in_err-ran.ensures.asked) c.requires.0 c.requires.1)

pub returns : goal.returns
returns c =
    let f = found c.in_ok-ran.ensures in
    let g = c.finish.ensures in
    finished f c.view.ensures (has_room_lem _ _ _ _ _ c.in_ok-unless.ensures c.in_ok-unless-2.ensures ∙ c.in_ok-ran.ensures.asked) c.requires.1 g.0 (rw c.join-left.ensures at g.1) g.2 (leb-true 257 _ (yes-asked _ _ c.in_ok-unless-2.ensures))
