-- The steps of a whole reduction, undone on the arcs.
use mathlib.Core.Path.{◌≡◌, ◌∙◌}
use mathlib.Core.List.{List}
use Prim.Native.Nat.{◌≤◌}
use lib.IntN.{ℤ}
use lib.ListN.{length}
use Rattle.network.specs.declared.Arc.{Arc}
use Rattle.network.specs.declared.Net.{Net}
use Rattle.network.specs.ArcList.{arcs_in}
use Rattle.network.specs.Legal.{Legal}
use Rattle.rules.specs.Table.{reduced}
use Rattle.rules.proofs.Whole.{whole}
use Rattle.step_log.specs.Log.{Holds}
use Rattle.postsolve.specs.Postsolve.{arcs_back}
use Rattle.postsolve.proofs.Steps.{arcs-back}

-- the arcs of what is left become those of the network given
pub arcs-given : (net : Net) → Legal net → (zs : List ℤ) (xs : List Arc) → Holds zs 0 (reduced net).steps → 96 ≤ length xs → arcs_in xs ≡ (reduced net).net.arcs → (arcs_in (arcs_back zs (length (reduced net).steps) xs) ≡ net.arcs) × (length (arcs_back zs (length (reduced net).steps) xs) ≡ length xs)
arcs-given net g zs xs h l e =
    let back = arcs-back zs (reduced net).steps (reduced net).net xs h l e in
    (back.0 ∙ (whole net g).put-back, back.1)
