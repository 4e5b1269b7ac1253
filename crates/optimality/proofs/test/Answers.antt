-- A refusal leaves zeros; of a pair that is passed the value is written over them.
use Rattle.std.proofs.Common.{◌≤◌, arith, length, ◌∙◌, ap, sym}
use Rattle.std.proofs.lemmas.Result.{err_from_is_err_and}
use borrow.Author.Tests.{leb-true}
use Rattle.loops.specs.Loops.{zeros}
use Rattle.records.specs.Values.{two_words}
use Rattle.records.proofs.Written.{one_value}
use Rattle.records.proofs.Questions.{refused, yes-asked, passed as let_by}
use Rattle.records.proofs.Tables.{answered-no, answered-yes}
use Rattle.optimality.proofs.Entry.{passed, refused-before, refused-pair}
use Rattle.optimality.proofs.test.Goals as goal

pub returns-in_err-unless : goal.returns-in_err-unless
returns-in_err-unless c =
    let p = err_from_is_err_and c.from_residual.result c.from_residual.ensures.1 in
    rw (p.1, p.2) (refused-before _ _ _ (sym (refused _ _ _ (rw c.clear.auto.s at c.in_err-unless.ensures))) c.clear.ensures)

pub returns-in_err-ask : goal.returns-in_err-ask
returns-in_err-ask c =
    let p = err_from_is_err_and c.from_residual-in_err-ask.result c.from_residual-in_err-ask.ensures.1 in
    rw (p.1, p.2) (refused-before _ _ _ (sym (c.in_err-ask.ensures ∙ let_by _ _ _ (rw c.clear.auto.s at c.in_ok-unless.ensures))) c.clear.ensures)

pub returns-in_err-there : goal.returns-in_err-there
returns-in_err-there c =
    let p = err_from_is_err_and c.from_residual-in_err-there.result c.from_residual-in_err-there.ensures.1 in
    rw (p.1, p.2)
    (refused-pair _ _ _ (sym (c.in_ok-ask.ensures ∙ let_by _ _ _ (rw c.clear.auto.s at c.in_ok-unless.ensures)))
    (answered-no _ _ (rw c.read.ensures at c.in_err-there.ensures)) c.clear.ensures)

pub returns : goal.returns
returns c =
    let z = answered-yes _ _ (rw c.read.ensures at c.in_ok-there.ensures) in
    let long : 2 ≤ length c.args.values.now = leb-true 2 _ (yes-asked _ _ (rw c.clear.auto.s at c.in_ok-unless.ensures)) in
    passed _ _ _ (sym (c.in_ok-ask.ensures ∙ let_by _ _ _ (rw c.clear.auto.s at c.in_ok-unless.ensures))) _ z.0
    (rw z.1 at c.write.ensures ∙ one_value _ _ (c.clear.ensures ∙ ap zeros (sym c.clear.auto.s)) (omega arith) ∙ ap (two_words _) c.clear.auto.s)
