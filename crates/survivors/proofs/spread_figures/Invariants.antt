use Rattle.std.proofs.Common.{false, get_or}
use Rattle.loops.proofs.Laws.{Counted, Filled}
use Rattle.survivors.specs.internal.Ranks.{spread_figure}
use Rattle.survivors.proofs.spread_figures.Given as goal

abbrev pub invariant-loop-i : goal.invariant-loop-i
invariant-loop-i g l = Filled (spread_figure l.fn.used l.figures g.row.N) g.row.N l.initial.at l.at l.i × Counted (λ k. get_or l.fn.used k false) g.row.N l.i l.d
