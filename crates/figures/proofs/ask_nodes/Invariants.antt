use Rattle.std.proofs.Common.{◌≡◌}
use Rattle.loops.specs.Loops.{all}
use Rattle.figures.specs.Figures.{balance_fits, is_balanced}
use Rattle.figures.proofs.ask_nodes.Given as goal

abbrev pub invariant-loop-i : goal.invariant-loop-i
invariant-loop-i l = (l.a.fit ≡ all (balance_fits l.net l.pair) l.i) × (l.a.balanced ≡ all (is_balanced l.net l.pair) l.i)
