use Rattle.std.proofs.Common.{◌+◌, ◌*◌}
use Rattle.loops.proofs.Laws.{Filled}
use Rattle.records.specs.Logged.{stack_word}
use Rattle.records.proofs.stack.write.Given as goal

abbrev pub invariant-loop-k : goal.invariant-loop-k
invariant-loop-k l = Filled (stack_word l.log l.s) (1 + 2 * l.s) l.initial.word-items l.word-items l.k
