use Rattle.step_log.proofs.Writes.{eight-written}
use Rattle.step_log.proofs.put_update.Goals as goal

pub returns : goal.returns
returns c = rw (eight-written _ c.args.at _ _ _ _ _ _ _ _, c.put_figure-5.ensures, c.put_figure-4.ensures, c.put_figure-3.ensures, c.put_figure-2.ensures, c.put_figure.ensures, c.put_number-3.ensures, c.put_number-2.ensures, c.put_number.ensures)
