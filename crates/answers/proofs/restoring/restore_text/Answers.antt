use lib.Dec.{lit≤}
use Rattle.std.proofs.Common.{rules}
use Rattle.answers.specs.Restoring.{split_of, on_split, restore_text}
use Rattle.answers.proofs.Printing.{printed}
use Rattle.answers.proofs.Right.{restored-right}
use Rattle.answers.proofs.restoring.restore_text.Goals as goal

pub returns : goal.returns
unfolding restore_text
returns c =
    let put = c.put_text.ensures (λ ws. on_split (split_of ws)) _ (lit≤ tt) (λ p q ws h. h) in
    (printed _ put c.new-page.ensures.zeros c.new-page.ensures.start (search (rules, put)), restored-right _)
