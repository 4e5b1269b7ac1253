-- `records::stack::is_stack` meets its contract.
use Rattle.std.proofs.Common.{◌+◌, ◌*◌, ℕ, rules, tests}
use Rattle.std.specs.Prelude.{ℤ}
use Rattle.std.proofs.lemmas.Iterator.{YieldsList-from_slice}
use Rattle.std.proofs.lemmas.Iterator.Consumers.{YieldsList-at, YieldsList-from_enumerate}
use Rattle.std.proofs.lemmas.Iterator.Search.{all_from_yields_List}
use Rattle.integer.specs.Whole.{eq_z}
use Rattle.records.specs.Logged.{is_stack_of, stack_word}
use Rattle.records.proofs.Logged.{same-built, same-long}
use borrow.Author.Tests.{eqb-false, eqb-true, le-leb, lt-leb}
use Rattle.loops.proofs.Laws.{length-build}
use native.Mathlib.Nat.{zero-add}
use mathlib.Core.Path.{◌∙◌, ap, sym}
use Rattle.records.proofs.stack.is_stack.Goals as goal
use Rattle.records.proofs.stack.is_stack.Goals.{then-s-le-MAX_STEPS, else-s-le-MAX_STEPS}

pub returns-then-stack-s : goal.returns-then-stack-s
unfolding is_stack_of
returns-then-stack-s c =
    let log = c.args.log.now in
    let s = c.args.s in
    let zs = c.args.stack.now in
    elim c.if-s-le-MAX_STEPS.branch [
      | then-s-le-MAX_STEPS w ↦ rw (le-leb s 128 w.if-s-le-MAX_STEPS.true) (all_from_yields_List (λ (p : ℕ × ℤ). eq_z p.1 (stack_word log s p.0)) _ _ c.all.result c.all.ensures.ran (YieldsList-from_enumerate (YieldsList-at c.enumerate.ensures.source (YieldsList-from_slice zs (cc))) c.enumerate.ensures.count) (λ x b q k. search (rules, tests)) ∙ same-built zs 0 (1 + 2 * s) (stack_word log s) (stack_word log s) (λ k. ap (stack_word log s) (zero-add k)) (eqb-true _ _ (sym w.value-is ∙ c.if-stack-s.true)))
      | else-s-le-MAX_STEPS w ↦ let e = lt-leb s 128 w.if-s-le-MAX_STEPS.false in let t = c.if-stack-s.true in cc w.value-is
    ]

pub returns-else-stack-s : goal.returns-else-stack-s
unfolding is_stack_of
returns-else-stack-s c =
    let s = c.args.s in
    elim c.if-s-le-MAX_STEPS.branch [
      | then-s-le-MAX_STEPS w ↦ rw (c.if-stack-s.false, le-leb s 128 w.if-s-le-MAX_STEPS.true) (sym (same-long _ _ (λ e. eqb-false _ _ (sym w.value-is ∙ c.if-stack-s.false) (e ∙ length-build _ _))))
      | else-s-le-MAX_STEPS w ↦ rw (c.if-stack-s.false, lt-leb s 128 w.if-s-le-MAX_STEPS.false)
    ]
