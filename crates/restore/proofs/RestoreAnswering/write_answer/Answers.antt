use Rattle.std.proofs.Common.{arith}
use Rattle.answers.proofs.Printing.{printed_within, printed_front}
use Rattle.restore.proofs.RestoreAnswering.write_answer.Goals as goal

pub returns : goal.returns
returns c = record { within = printed_within c.restore_text.ensures.0; bytes = λ h. printed_front c.restore_text.ensures.0 (omega (arith, h)) }
