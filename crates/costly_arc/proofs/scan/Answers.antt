use Rattle.costly_arc.proofs.Going.{going-covers, going-found, going-idle, going-past, going-vain}
use Rattle.costly_arc.proofs.Upward.{reached-all, reached-none}
use Rattle.costly_arc.proofs.Passing.{passes_kept}
use mathlib.Core.Path.{◌∙◌, refl, sym}
use native.Mathlib.Omega.{arith}
use Rattle.costly_arc.proofs.scan.Goals as goal
use Rattle.costly_arc.proofs.scan.Goals.{then-is_due+in-Ok+else-has_pair, then-is_due+in_default, else-is_due}

pub returns-then-has_pair : goal.returns-then-has_pair
returns-then-has_pair c = λ k. let h = c.loop-j.invariant k in let times = c.all_times-at in let pair = c.has_pair.ensures (h.known.vain _) (going-covers h times.result times.ensures) in going-found h (omega (arith, c.loop-j-test.true)) times.result _ (sym c.is_due.ensures ∙ c.if-is_due.true) (sym pair ∙ c.if-has_pair.true) c.at_lower.ensures c.in-Ok.is

pub bounds-known-j-in-Ok : goal.bounds-known-j-in-Ok
bounds-known-j-in-Ok c = omega (arith, c.loop-j-test.true)

pub returns : goal.returns
returns c = λ k. let h = c.loop-j.invariant k in (reached-all _ _ _ _ h.reached (omega (arith, c.loop-j-test.false)), h.known)

pub loop-j-init : goal.loop-j-init
loop-j-init c = λ k. record { reached = reached-none _ _ _ _; known = k; put = λ k. refl }

pub loop-j-preserved : goal.loop-j-preserved
loop-j-preserved c = λ k.
    let h = c.loop-j.invariant k in
    let times = c.all_times-at in
    elim c.if-is_due.branch [
      | then-is_due+in-Ok+else-has_pair w ↦ going-vain h (omega arith) (sym (w.has_pair.ensures (h.known.vain _) (going-covers h times.result times.ensures)) ∙ w.if-has_pair.false) w.known-is
      | then-is_due+in_default w ↦ going-past h (omega arith) (passes_kept _ _ _ w.at_lower.ensures w.in_default.not-Ok) w.known-is
      | else-is_due w ↦ going-idle h (omega arith) times.result times.ensures (sym c.is_due.ensures ∙ w.if-is_due.false) w.known-is
    ]
