-- Rule 6 as it is tried, by the four arcs at a node.
use Rattle.std.specs.Prelude.{Bool, true, false, cond, not, ℕ, eqb, get_or}
use Rattle.fraction.specs.declared.Fraction.{Fraction}
use Rattle.fraction.specs.Exact.{no_figure, is_zero}
use Rattle.network.specs.declared.ArcUpdate.{ArcUpdate}
use Rattle.network.specs.Limits.{max_nodes}
use Rattle.network.specs.Network.{no_update}
use Rattle.step.specs.declared.Around.{Around}
use Rattle.step.specs.Outcome.{Outcome}
use Rattle.step.specs.Outcome.{◌>>◌, only_where}
use Rattle.step.specs.Run.{Rule}
use Rattle.crossing.specs.declared.Signed.{Signed}
use Rattle.crossing.specs.Crossing.{crossed_at, crossing, crossing_back}
use Rattle.step.specs.Junction.{has_sign_at}

-- of the arcs at node i, the first two of a sign; number 0 where there is none
unfoldable pub signed_in : Signed → ArcUpdate → ℕ → Bool → Signed
signed_in s u i below =
    cond (has_sign_at u.arc i below)
    (cond (eqb s.first.number 0) (record { first = u; second = s.second })
    (cond (eqb s.second.number 0) (record { first = s.first; second = u }) s)) s

abbrev pub no_signed : Signed
no_signed = record { first = no_update; second = no_update }

unfoldable pub signed_of : Around → ℕ → Bool → Signed
signed_of near i below = signed_in (signed_in (signed_in (signed_in no_signed near.one i below) near.two i below) near.three i below) near.four i below

-- node i has degree d and supply r
unfoldable pub crossing_by : Fraction → ℕ → ℕ → Fraction → Around → Outcome
crossing_by constant i d r near = do
  let n = signed_of near i true
  let p = signed_of near i false
  only_where (eqb d 4)
  only_where (is_zero r)
  only_where (not (eqb n.second.number 0))
  only_where (not (eqb p.second.number 0))
  crossed_at constant i r n.first n.second p.first p.second (record { first = near.one.number; second = near.two.number; third = near.three.number; fourth = near.four.number })

abbrev pub rule : Rule
rule = record { last = max_nodes; at = crossing; back = crossing_back; trial = record { degree = 4; balanced = true; by = λ constant supply i d near. crossing_by constant i d (get_or supply i no_figure) near } }
