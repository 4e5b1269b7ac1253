-- All four are operands.
use Rattle.std.proofs.Common.{sym}
use Rattle.fraction.proofs.Laws.{operand-is}
use Rattle.wide.proofs.in_full.Goals as goal

pub over-requires : goal.over-requires
over-requires c =
    (operand-is _ (sym c.if-is_operand.ensures), operand-is _ (sym c.if-is_operand-2.ensures), operand-is _ (sym c.if-is_operand-3.ensures), operand-is _ (sym c.if-is_operand-4.ensures))
