use Rattle.std.proofs.Common.{arith}
use Rattle.answers.proofs.Printing.{printed_within, printed_front}
use Rattle.reduce.proofs.ReduceAnswering.write_answer.Goals as goal

pub returns : goal.returns
returns c = record { within = printed_within c.reduce_text.ensures.0; bytes = λ h. printed_front c.reduce_text.ensures.0 (omega (arith, h)) }
