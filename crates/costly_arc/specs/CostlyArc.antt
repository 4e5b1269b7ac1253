-- Rule 4, costly arc (01, "The six reductions"; Proposition 1): a dominated column.
use Rattle.std.specs.Prelude.{Bool, false, ◌&&◌, not, ℕ, eqb}
use Rattle.loops.specs.Loops.{any}
use Rattle.fraction.specs.declared.Fraction.{Fraction}
use Rattle.fraction.specs.Exact.{Worked}
use Rattle.std.specs.Prelude.{Ok, Err}
use Rattle.fraction.specs.Exact.{zero_fraction, no_upper, is_finite, is_less, is_same}
use Rattle.fraction.specs.Formula.{◌⊕◌, ◌⊗◌, ◌⊘◌}
use Rattle.network.specs.declared.Arc.{Arc}
use Rattle.network.specs.declared.Net.{Net}
use Rattle.network.specs.Limits.{max_arcs, arc_places}
use Rattle.network.specs.Network.{arc_at, is_root}
use Rattle.step.specs.Outcome.{Outcome}
use Rattle.step.specs.Outcome.{◌>>◌, only_where}
use Rattle.step.specs.Dropped.{dropped_at, lower_back}
use Rattle.step.specs.Around.{no_trial}
use Rattle.step.specs.Run.{Rule}

-- a result that fits and is above 0; one that fits and is below c
abbrev pub is_positive : Worked → Bool
is_positive (Ok x) = is_less zero_fraction x
is_positive (Err m) = false

abbrev pub is_under : Worked → Fraction → Bool
is_under (Ok x) c = is_less x c
is_under (Err m) c = false

-- "some root arc .. at the from node, some .. at the to node, both without upper bound"
unfoldable pub is_open_root : Arc → ℕ → Bool
is_open_root x i = is_root x && (eqb x.from i && is_same x.upper no_upper)

-- "a ÷ a1 > 0, b ÷ a2 > 0, and c > c1 × a ÷ a1 + c2 × b ÷ a2"
unfoldable pub is_costlier : Arc → Arc → Arc → Bool
is_costlier t x y =
    is_positive (Ok t.a ⊘ Ok x.a)
    && (is_positive (Ok t.b ⊘ Ok y.a)
    && is_under (Ok x.cost ⊗ Ok t.a ⊘ Ok x.a ⊕ Ok y.cost ⊗ Ok t.b ⊘ Ok y.a) t.cost)

-- "one pair of root arcs whose figures all fit is enough"
unfoldable pub has_pair : Net → Arc → Bool
has_pair net t = any (λ x. is_open_root (arc_at net x) t.from && any (λ y. is_open_root (arc_at net y) t.to && is_costlier t (arc_at net x) (arc_at net y)) arc_places) arc_places

-- "Not a root arc, l finite; .. As rule 1 with flow l." A number not in use has no ends and counts as a root arc here
unfoldable pub costly_arc : Net → ℕ → Outcome
costly_arc net j = do
  let t = arc_at net j
  only_where (not (is_root t))
  only_where (is_finite t.lower)
  only_where (has_pair net t)
  dropped_at net j t.lower

abbrev pub rule : Rule
rule = record { last = max_arcs; at = costly_arc; back = lower_back; trial = no_trial }
