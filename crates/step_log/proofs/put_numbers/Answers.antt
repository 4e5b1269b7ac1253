use Rattle.step_log.proofs.Writes.{four-written}
use Rattle.step_log.proofs.put_numbers.Goals as goal

pub returns : goal.returns
returns c = rw (four-written _ c.args.at _ _ _ _, c.put_number-4.ensures, c.put_number-3.ensures, c.put_number-2.ensures, c.put_number.ensures)
