use mathlib.Core.Path.{◌∙◌, sym, ap}
use Rattle.std.proofs.lemmas.Result.{err_from_is_err_and}
use Rattle.network.specs.ArcList.{arcs_in}
use Rattle.records.proofs.Tables.{answered-no, answered-yes}
use Rattle.reduction.proofs.Found.{found}
use Rattle.restoration.proofs.Parts.{no-out, no_values, search_no, search-yes, offer-no, refused, arcs-first, offered, went_back}
use Rattle.restoration.proofs.restore_in.Goals as goal

pub returns-in_err-unless : goal.returns-in_err-unless
returns-in_err-unless c =
    let p = err_from_is_err_and c.from_residual.result c.from_residual.ensures.1 in
    rw (p.1, p.2) (refused (no-out _ _ _ _ _ _ _ c.in_err-unless.ensures) c.requires.0 c.requires.1)

pub returns-in_err-unless-2 : goal.returns-in_err-unless-2
returns-in_err-unless-2 c =
    let p = err_from_is_err_and c.from_residual-in_err-unless-2.result c.from_residual-in_err-unless-2.ensures.1 in
    rw (p.1, p.2) (refused (no_values _ _ _ _ _ _ _ c.in_ok-unless.ensures c.in_err-unless-2.ensures) c.requires.0 c.requires.1)

pub returns-in_err-ran : goal.returns-in_err-ran
returns-in_err-ran c =
    let p = err_from_is_err_and c.from_residual-in_err-ran.result c.from_residual-in_err-ran.ensures.1 in
    rw (p.1, p.2) (refused (search_no _ _ _ _ _ _ _ c.in_ok-unless.ensures c.in_ok-unless-2.ensures c.in_err-ran.ensures.asked) c.requires.0 c.requires.1)

pub returns-in_err-there : goal.returns-in_err-there
returns-in_err-there c =
    let p = err_from_is_err_and c.from_residual-in_err-there.result c.from_residual-in_err-there.ensures.1 in
    let h = answered-no _ _ (offered (found c.in_ok-ran.ensures) _ _ c.view.ensures c.join-left.ensures c.in_err-there.ensures) in
    rw (p.1, p.2)
    (refused (search-yes _ _ _ _ _ _ _ c.in_ok-unless.ensures c.in_ok-unless-2.ensures c.in_ok-ran.ensures.asked ∙ offer-no _ _ _ _ h) c.requires.0 c.requires.1)

pub returns : goal.returns
returns c =
    let f = found c.in_ok-ran.ensures in
    let h = answered-yes _ _ (offered f _ _ c.view.ensures c.join-left.ensures c.in_ok-there.ensures) in
    let u = c.undo_steps-way.ensures in
    went_back f _ _ h.0 h.1 (u.0 _ f.steps_is f.holds) c.read_beside-nodes.ensures (c.view-2.ensures ∙ ap arcs_in u.1 ∙ arcs-first f (sym c.run.auto.arcs)) c.join-given.ensures c.finish.ensures
    (search-yes _ _ _ _ _ _ _ c.in_ok-unless.ensures c.in_ok-unless-2.ensures c.in_ok-ran.ensures.asked)
