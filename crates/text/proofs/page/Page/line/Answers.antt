use Rattle.std.proofs.Common.{arith}
use Rattle.integer.specs.Machine.{back32}
use Rattle.text.proofs.Pages.{prints_line, prints-empty}
use Rattle.text.proofs.page.Page.line.Goals as goal
use Rattle.text.proofs.page.Page.line.Goals.{in-Some, in_default}

pub returns : goal.returns
returns c = elim c.match-split_first.branch [
  | in-Some w ↦
      let h = w.in-Some.ensures in
      prints_line h.cases.0 (rw (back32 w.in-Some.first.now (omega arith)) at w.number.ensures) w.behind_spaces.ensures (rw w.self-is at c.bytes.ensures)
  | in_default w ↦
      let h = w.in_default.ensures in
      prints-empty _ h.cases (rw w.self-is at c.bytes.ensures)
]
