use Rattle.step_log.proofs.Writes.{step-written}
use Rattle.step_log.proofs.put_old.Goals as goal

pub returns : goal.returns
returns c = rw (step-written _ c.args.at c.args.rule c.args.place c.args.old, c.put_numbers.ensures, c.put_update-4.ensures, c.put_update-3.ensures, c.put_update-2.ensures, c.put_update.ensures, c.put_figure.ensures, c.put_number-3.ensures, c.put_number-2.ensures, c.put_number.ensures)
