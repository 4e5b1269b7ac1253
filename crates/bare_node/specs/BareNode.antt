-- Rule 2, bare node (01, "The six reductions"): an empty row.
use Rattle.std.specs.Prelude.{Ok}
use Rattle.std.specs.Prelude.{false, not, ℕ, eqb, get_or}
use Rattle.fraction.specs.declared.Fraction.{Fraction}
use Rattle.fraction.specs.Exact.{zero_fraction, no_figure, is_zero}
use Rattle.network.specs.declared.Net.{Net}
use Rattle.network.specs.declared.pair.Pair.{Pair}
use Rattle.network.specs.Limits.{max_nodes}
use Rattle.network.specs.Network.{supply_at, is_here, degree_of, no_update, no_supply_update, edit_one}
use Rattle.step.specs.declared.Old.{Old}
use Rattle.step.specs.Outcome.{Outcome}
use Rattle.step.specs.Back.{Undone}
use Rattle.step.specs.Outcome.{◌>>◌, only_where, no_flow_where}
use Rattle.step.specs.Back.{old_one, price_only}
use Rattle.step.specs.Run.{Rule}

-- "degree 0. r not 0: no flow. Otherwise dropped."
-- node i has degree d and supply r; the constant stays
unfoldable pub bare : Fraction → ℕ → ℕ → Fraction → Outcome
bare constant i d r = do
  only_where (eqb d 0)
  no_flow_where (not (is_zero r))
  Ok (record { edit = edit_one no_update no_supply_update no_supply_update i constant; old = old_one i no_figure no_update })

unfoldable pub bare_node : Net → ℕ → Outcome
bare_node net i = do
  only_where (is_here net i)
  bare net.constant i (degree_of net i) (supply_at net i)

-- "Back: price 0."
unfoldable pub bare_back : Old → Pair → Undone
bare_back old pair = Ok (price_only old.node zero_fraction)

abbrev pub rule : Rule
rule = record { last = max_nodes; at = bare_node; back = bare_back; trial = record { degree = 0; balanced = false; by = λ constant supply i d near. bare constant i d (get_or supply i no_figure) } }
