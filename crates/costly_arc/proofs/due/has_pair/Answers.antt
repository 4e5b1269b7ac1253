use Rattle.costly_arc.proofs.Pairs.{due-is}
use mathlib.Core.Path.{◌∙◌}
use Rattle.costly_arc.proofs.due.has_pair.Goals as goal

pub returns : goal.returns
returns c = λ h covers. c.any_due_pair.ensures ∙ rw (c.all_ways-ways.ensures, c.bar-q.ensures, c.is_fresh-2.ensures, c.bar-p.ensures, c.is_fresh.ensures) (due-is c.args.net c.args.seen c.args.w c.args.t h _ covers)
