use lib.Dec.{lit≤}
use Rattle.text.proofs.Pages.{prints_most}
use Rattle.answers.proofs.Reading.{read_none, read_some}
use Rattle.answers.proofs.put_text.Goals as goal

pub returns-in-Some : goal.returns-in-Some
returns-in-Some g c = λ f most l h. rw (read_some c.args.text.now 12288 c.read_words.new.words (lit≤ tt) c.in-Some.n (rw c.in-Some.is at c.read_words.ensures)).is (h _ _ _ c.put_words.ensures)

pub returns : goal.returns
returns g c = λ f most l h. rw (read_none c.args.text.now 12288 c.read_words.new.words (lit≤ tt) (rw c.in-None.is at c.read_words.ensures)) (prints_most c.put_refusal.ensures l)
