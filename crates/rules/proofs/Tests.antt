-- Where the test before rule 1 fails, the rule passes.
use Rattle.std.specs.Prelude.{Err}
use mathlib.Core.Path.{◌≡◌, refl, sym}
use mathlib.Core.Bool.{Bool, true, false, ◌&&◌, ◌||◌, not}
use Prim.Native.Nat.{ℕ}
use lib.Dec.{eqb}
use Rattle.fraction.specs.Exact.{is_less, is_same}
use Rattle.network.specs.declared.Arc.{Arc}
use Rattle.network.specs.declared.Net.{Net}
use Rattle.network.specs.Network.{arc_at}
use Rattle.network.specs.Legal.{Legal}
use Rattle.step.specs.Outcome.{Outcome}
use Rattle.step.specs.declared.Halt.TheVariants.{Passes}
use Rattle.step.specs.Outcome.{only_where, no_flow_where}
use Rattle.step.proofs.Touch.{unlike}
use Rattle.closed_arc.specs.ClosedArc.{closed, closed_arc}
use Rattle.rules.specs.Tried.{is_closed}

pub closed-open : {net : Net} → Legal net → (j : ℕ) {t : Arc} → t ≡ arc_at net j → is_closed t ≡ false → closed_arc net j ≡ Err Passes
unfolding is_closed closed only_where no_flow_where
closed-open {net} g j q e = by (eqb (arc_at net j).from 0) (is_less (arc_at net j).upper (arc_at net j).lower) (is_same (arc_at net j).lower (arc_at net j).upper) _ (rw q at e)
  where
    by : (z c s : Bool) (x : Outcome) → (not z && (c || s)) ≡ false → only_where (not z) (no_flow_where c (only_where s x)) ≡ Err Passes
    by true c s x f = refl
    by false true s x f = unlike (sym f)
    by false false true x f = unlike (sym f)
    by false false false x f = refl
