-- Postsolve: the way back from a pair of the reduced network to one of the network given (01, "The six reductions", what each has under
-- "Back"): the pair at the original numbers, then the steps undone, the last first, and their old arcs put back into the lent list.
use Rattle.std.specs.Prelude.{List, ℕ, zero, suc, ℤ}
use Rattle.network.specs.declared.Arc.{Arc}
use Rattle.network.specs.ArcList.{replaced_by}
use Rattle.step.specs.Back.{old_arcs_of}
use Rattle.step_log.specs.Log.{old_in}

-- ---- the steps undone

-- k numbers, the last first
unfoldable pub down_from : {S : Type 0} → (ℕ → S → S) → ℕ → S → S
down_from f zero s = s
down_from f (suc k) s = down_from f k (f k s)

-- the old arcs of step k of the log put back
abbrev pub arcs_turn : List ℤ → ℕ → List Arc → List Arc
arcs_turn zs k xs = replaced_by xs (old_arcs_of (old_in zs k))

-- the old arcs of the first so many steps, the last first
abbrev pub arcs_back : List ℤ → ℕ → List Arc → List Arc
arcs_back zs steps xs = down_from (arcs_turn zs) steps xs
