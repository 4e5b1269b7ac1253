-- Rule 1, closed arc (01, "The six reductions"): a fixed column.
use Rattle.std.specs.Prelude.{not, ℕ, eqb}
use Rattle.fraction.specs.declared.Fraction.{Fraction}
use Rattle.fraction.specs.Exact.{is_less, is_same}
use Rattle.network.specs.declared.Net.{Net}
use Rattle.network.specs.declared.Arc.{Arc}
use Rattle.network.specs.Limits.{max_arcs}
use Rattle.network.specs.Network.{arc_at, supply_at}
use Rattle.step.specs.Outcome.{Outcome}
use Rattle.step.specs.Outcome.{◌>>◌, only_where, no_flow_where}
use Rattle.step.specs.Dropped.{dropped, lower_back}
use Rattle.step.specs.Around.{no_trial}
use Rattle.step.specs.Run.{Rule}

-- "l > u: the answer is no flow. l = u: supply at each end less its multiplier × l; arc dropped."
-- j is the arc t, in use; r and r' are the supplies at its ends
unfoldable pub closed : Fraction → ℕ → Arc → Fraction → Fraction → Outcome
closed constant j t r r' = do
  only_where (not (eqb t.from 0))
  no_flow_where (is_less t.upper t.lower)
  only_where (is_same t.lower t.upper)
  dropped constant j t t.lower r r'

abbrev pub closed_arc : Net → ℕ → Outcome
closed_arc net j = closed net.constant j (arc_at net j) (supply_at net (arc_at net j).from) (supply_at net (arc_at net j).to)

-- "Back: flow l."
abbrev pub rule : Rule
rule = record { last = max_arcs; at = closed_arc; back = lower_back; trial = no_trial }
