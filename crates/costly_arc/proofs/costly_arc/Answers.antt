use Rattle.costly_arc.proofs.Known.{searched-never}
use Rattle.costly_arc.proofs.Passing.{costly-is}
use mathlib.Core.Bool.{and-false}
use Rattle.costly_arc.proofs.costly_arc.Goals as goal

pub returns-then-not-is_candidate : goal.returns-then-not-is_candidate
returns-then-not-is_candidate c = rw (costly-is, ← c.arc_at-t.ensures, ← c.is_candidate.ensures, c.if-not-is_candidate.true)

pub returns-then-not-has_pair : goal.returns-then-not-has_pair
returns-then-not-has_pair c = rw (costly-is, ← c.arc_at-t.ensures, ← c.has_pair.ensures (searched-never c.args.net c.unseen-seen.result c.arc_at-t.result) c.all_times-at.ensures, c.if-not-has_pair.true, and-false)

pub returns : goal.returns
returns c = rw (costly-is, ← c.arc_at-t.ensures, ← c.is_candidate.ensures, c.if-not-is_candidate.false, ← c.has_pair.ensures (searched-never c.args.net c.unseen-seen.result c.arc_at-t.result) c.all_times-at.ensures, c.if-not-has_pair.false) c.at_lower.ensures
