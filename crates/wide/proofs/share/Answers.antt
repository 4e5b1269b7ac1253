-- Where the steps fit, they give the share.
use Rattle.std.proofs.Common.{◌≡◌, true, sym, ◌∙◌}
use Rattle.fraction.specs.declared.Fraction.{Fraction}
use Rattle.fraction.specs.Exact.{Worked}
use Rattle.std.specs.Prelude.{Ok, Err}
use Rattle.fraction.specs.Formula.{is_fit}
use Rattle.fraction.proofs.Laws.{never}
use Rattle.wide.specs.Share.{share_of}
use Rattle.wide.specs.internal.Wide.{steps_of}
use Rattle.wide.proofs.Laws.{share-steps}
use Rattle.wide.proofs.share.Goals as goal

-- the steps have fitted
stepped : (r a l b : Fraction) (w : Worked) → w ≡ steps_of r a l b → is_fit w ≡ true → w ≡ share_of r a l b
stepped r a l b (Ok z) e t = sym (share-steps r a l b z (sym e))
stepped r a l b (Err m) e t = never cc

pub returns-then-is_ok : goal.returns-then-is_ok
returns-then-is_ok c = stepped _ _ _ _ c.by_steps-w.result c.by_steps-w.ensures (sym c.is_ok.ensures.value ∙ c.if-is_ok.true)
