use lib.Dec.{lit≤}
use Rattle.std.proofs.Common.{rules}
use Rattle.answers.specs.Answers.{reduced_text, reduce_text}
use Rattle.answers.proofs.Printing.{printed}
use Rattle.answers.proofs.Right.{no-flow-right}
use Rattle.answers.proofs.reduce_text.Goals as goal

pub returns : goal.returns
unfolding reduce_text
returns c =
    let put = c.put_text.ensures reduced_text _ (lit≤ tt) (λ p q ws h. h) in
    (printed _ put c.new-page.ensures.zeros c.new-page.ensures.start (search (rules, put)), no-flow-right _)
