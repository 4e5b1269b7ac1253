use Rattle.text.proofs.Pages.{prints_none, prints_byte}
use Rattle.text.proofs.page.Page.bytes.Goals as goal

pub loop-b-init : goal.loop-b-init
loop-b-init c = prints_none _

pub loop-b-preserved : goal.loop-b-preserved
loop-b-preserved c = prints_byte _ c.loop-b.invariant c.loop-b-test.true c.byte.ensures
