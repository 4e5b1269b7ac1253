-- `records::net::ask` meets its contract.
use mathlib.Core.Path.{◌∙◌, refl}
use Rattle.std.proofs.lemmas.Result.{err_from_is_err_and}
use Rattle.records.proofs.Questions.{same-refusal, refused, passed, asked, not-asked}
use Rattle.records.proofs.net.ask.Goals as goal

pub returns-in_err-record : goal.returns-in_err-record
returns-in_err-record c =
    let p = err_from_is_err_and c.from_residual.result c.from_residual.ensures.1 in
    rw (p.1, p.2, same-refusal (rw c.in_err-record.ensures.ok_part at c.in_err-record.ensures.value)) (not-asked _ (rw c.in_err-record.ensures.ok_part at c.of.ensures))

pub returns-in_err-unless : goal.returns-in_err-unless
returns-in_err-unless c =
    let p = err_from_is_err_and c.from_residual-in_err-unless.result c.from_residual-in_err-unless.ensures.1 in
    let h = rw c.in_ok-record.ensures.ok_part at c.of.ensures in
    rw (p.1, p.2) (refused _ _ _ c.in_err-unless.ensures ∙ asked _ _ _ _ h c.is_in_form.ensures refl refl)

pub returns-in_err-unless-2 : goal.returns-in_err-unless-2
returns-in_err-unless-2 c =
    let p = err_from_is_err_and c.from_residual-in_err-unless-2.result c.from_residual-in_err-unless-2.ensures.1 in
    let h = rw c.in_ok-record.ensures.ok_part at c.of.ensures in
    rw (p.1, p.2) (refused _ _ _ c.in_err-unless-2.ensures ∙ passed _ _ _ c.in_ok-unless.ensures ∙ asked _ _ _ _ h c.is_in_form.ensures c.has_ends.ensures refl)

pub returns : goal.returns
returns c =
    let h = rw c.in_ok-record.ensures.ok_part at c.of.ensures in
    c.unless-3.ensures ∙ passed _ _ _ c.in_ok-unless-2.ensures ∙ passed _ _ _ c.in_ok-unless.ensures ∙ asked _ _ _ _ h c.is_in_form.ensures c.has_ends.ensures c.is_weighted.ensures
