-- One turn of the way back, in code.
use Rattle.std.specs.Prelude.{List, ℕ, ℤ}
use Rattle.fraction.specs.Exact.{no_figure}
use Rattle.network.specs.declared.Edit.{Edit}
use Rattle.network.specs.Network.{no_supply_update}
use Rattle.step.specs.declared.Old.{Old}
use Rattle.step.specs.Run.{Way, rule_of, undo}
use Rattle.rules.specs.Table.{rules}
use Rattle.step_log.specs.Log.{rule_in, old_in}

-- step k undone by the log
abbrev pub back_turn : List ℤ → ℕ → Way → Way
back_turn zs k way = undo ((rule_of rules (rule_in zs k)).back (old_in zs k)) way

-- the old arcs of a step as an edit, of which only its arcs are put
abbrev pub old_edit : Old → Edit
old_edit old = record { one = old.one; two = old.two; three = old.three; four = old.four; left = no_supply_update; right = no_supply_update; gone = 0; constant = no_figure }
