use Rattle.std.proofs.Common.{arith, refl}
use Rattle.text.proofs.Writing.{put_one, put-outside}
use Rattle.text.proofs.page.Page.byte.Goals as goal

pub returns-then-self : goal.returns-then-self
returns-then-self c = record { same = refl; put = put_one _ _ _ c.if-self.true; few = omega arith }

pub returns-else-self : goal.returns-else-self
returns-else-self c = record { same = refl; put = put-outside _ _ _ c.if-self.false; few = omega arith }
